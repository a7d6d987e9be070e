-- `seek`: the loop over searches. Each that goes on does so further to the right. `seeking` for search.
use Prim.Native.Nat.{◌+◌, ◌-◌, ◌<◌}
use native.Mathlib.Omega.{arith}
use mathlib.Core.List.{List}
use mathlib.Core.Path.{◌≡◌, refl, subst}
use Rattle.rules.specs.Terms.{Term}
use Rattle.rules.specs.Types.{Table}
use Rattle.rules.specs.Format.{Record}
use Rattle.rules.proofs.Laid.{size_some}
use Rattle.contexts.specs.Contexts.{Context}
use Rattle.zipper.specs.declared.focus.Ahead.{Ahead}
use Rattle.navigation.specs.declared.ascending.Turn.{Turn}
use Rattle.navigation.specs.declared.ascending.Turn.TheVariants.{Next, Value, Redex, Match}
use Rattle.navigation.specs.Ascending.{HeldAhead, Sought, valued, redex, matched, Turned, next, sought}
use Rattle.seeking.specs.Seeking.{CanSeek, Searches, Seeks}

-- What was sought is no further focus.
abbrev pub NoNext : Turn → Type 0
NoNext (Next a) = ⊥
NoNext (Value z) = Unit {0}
NoNext (Redex z level) = Unit {0}
NoNext (Match z) = Unit {0}

pub sought_over : (types : Table) (rs : List Record) (whole : Term) (x : Turn) → Sought types rs whole x → NoNext x
sought_over types rs whole _ (valued z v h) = tt
sought_over types rs whole _ (redex z level C t h r c n) = tt
sought_over types rs whole _ (matched z k f s e C q h l r c) = tt

-- The term is laid out around some focus there.
record HeldSome (types : Table) (rs : List Record) (a : Ahead) (whole : Term) : Type 0 where
  context : Context
  focus : Term
  held : HeldAhead types rs a context focus whole

-- The search, which began at `from` of rs₀, is at a of rs.
pub record Onward (rs₀ rs : List Record) (from a : Ahead) : Type 0 where
  each : (types : Table) (C : Context) (t whole : Term) → HeldAhead types rs₀ from C t whole → HeldSome types rs a whole

pub onward_starts : (rs : List Record) (a : Ahead) → Onward rs rs a a
onward_starts rs a = record { each = λ types C t whole k. record { context = C; focus = t; held = k } }

module _ (rs₀ rs : List Record) (from a : Ahead) (o : Onward rs₀ rs from a) where
  at_some : (h : CanSeek rs₀ from) → HeldSome h.types rs a h.whole
  at_some h = o.each h.types h.context h.focus h.whole h.held

  pub onward_seeks : CanSeek rs₀ from → CanSeek rs a
  onward_seeks h = let k = at_some h in record { types = h.types; context = k.context; focus = k.focus; whole = h.whole; held = k.held }

  module _ (rs' : List Record) (r : Turn) (d : Searches rs rs' a r) where
    told : (types : Table) (C : Context) (t whole : Term) → HeldAhead types rs₀ from C t whole → Turned types rs' (a.r + 1) whole r
    told types C t whole k = let z = o.each types C t whole k in d.does types z.context z.focus whole z.held

    module _ (b : Ahead) (e : r ≡ Next b) where
      on_next : (types : Table) (whole : Term) → Turned types rs' (a.r + 1) whole (Next b) → HeldSome types rs' b whole × (a.r < b.r)
      on_next types whole (next _ C t k l) = (record { context = C; focus = t; held = k }, omega arith)
      on_next types whole (sought _ s) = absurd (sought_over types rs' whole (Next b) s)

      next_held : (types : Table) (C : Context) (t whole : Term) → HeldAhead types rs₀ from C t whole → HeldSome types rs' b whole × (a.r < b.r)
      next_held types C t whole k = on_next types whole (subst (Turned types rs' (a.r + 1) whole) e (told types C t whole k))

      pub onward_again : Onward rs₀ rs' from b
      onward_again = record { each = λ types C t whole k. (next_held types C t whole k).0 }

      pub onward_less : CanSeek rs₀ from → 4096 - b.r < 4096 - a.r
      onward_less h =
          let k = at_some h in
          omega (arith, (next_held h.types h.context h.focus h.whole h.held).1, k.held.laid.around.whole, size_some k.focus)

    -- Otherwise it is over.
    pub onward_over : ((b : Ahead) → r ≡ Next b → ⊥) → Seeks rs₀ rs' from r
    onward_over n = record { does = λ types C t whole k. go types whole r n (told types C t whole k) }
      where
        go : (types : Table) (whole : Term) (x : Turn) → ((b : Ahead) → x ≡ Next b → ⊥) → Turned types rs' (a.r + 1) whole x → Sought types rs' whole x
        go types whole _ n (next b C t k l) = absurd (n b refl)
        go types whole x n (sought _ s) = s

pub ruleset seeking = (onward_starts, onward_seeks, onward_again, onward_less, onward_over)
