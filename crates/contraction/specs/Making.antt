-- The contractum of a plan: whether it has room, and where it stands once it is made.
use Rattle.std.specs.Prelude.{ℕ, ◌+◌, ◌<◌, ◌≤◌, Bool, List, ◌≡◌, leb, length}
use Rattle.rules.specs.Terms.{Term, size}
use Rattle.rules.specs.Format.{Record}
use Rattle.terms.specs.Preorder.{There, At}
use Rattle.copies.specs.Copying.{Outside}
use Rattle.contraction.specs.declared.plans.Plan.{Plan}
use Rattle.contraction.specs.declared.making.Block.{Block}
use Rattle.contraction.specs.Plans.{Clear, Planned}

-- The plan is right of some contractum; b tells whether that has at most `room` records.
pub record CanMeasure (rs : List Record) (plan : Plan) : Type 0 where
  pub lo : ℕ
  pub hi : ℕ
  pub end : ℕ
  pub replaced : ℕ
  pub contractum : Term
  pub planned : Planned rs lo hi end plan replaced contractum

pub record TellsFits (rs : List Record) (plan : Plan) (room : ℕ) (b : Bool) : Type 0 where
  pub is : (lo hi end n : ℕ) (u : Term) → Planned rs lo hi end plan n u → b ≡ leb (size u) room

-- The plan is right of u, and the records from dst on and before hi are free and enough for it.
pub record Makes (rs : List Record) (plan : Plan) (dst hi end n : ℕ) (u : Term) : Type 0 where
  pub planned : Planned rs dst hi end plan n u
  pub room : dst + size u ≤ hi
  pub within : hi ≤ length rs
  pub few : hi < 65536

pub record CanMake (rs : List Record) (plan : Plan) (dst : ℕ) : Type 0 where
  pub hi : ℕ
  pub end : ℕ
  pub replaced : ℕ
  pub contractum : Term
  pub makes : Makes rs plan dst hi end replaced contractum

-- The block is u, with its measures, before hi or from hi on and before `end`. n variables gave way. What stood outside of the free records still does.
pub record Made (rs rs' : List Record) (dst hi end n : ℕ) (u : Term) (b : Block) : Type 0 where
  pub there : At rs' b.at u
  pub long : b.size ≡ size u
  pub counted : b.replaced ≡ n
  pub clear : Clear hi hi end b.at (size u)
  pub others : (i : ℕ) (xs : List Record) → There rs i xs → Outside dst hi i (length xs) → There rs' i xs

pub record MakesBlock (rs rs' : List Record) (plan : Plan) (dst : ℕ) (b : Block) : Type 0 where
  pub does : (hi end n : ℕ) (u : Term) → Makes rs plan dst hi end n u → Made rs rs' dst hi end n u b
