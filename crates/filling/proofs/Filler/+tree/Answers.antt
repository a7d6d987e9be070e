-- What the walk has come to where a child's tree is done is said once for each child, over what the paths after it share; the goals after it cite that.
use Rattle.std.proofs.Common.{ℕ, ◌-◌, refl, arith}
use Rattle.std.proofs.lemmas.Result.{err_from_is_err_and}
use Rattle.std.specs.Prelude.{Ok}
use Rattle.rules.specs.Typing.{first_level}
use Rattle.kinds.specs.Named.{kind_meant}
use Rattle.judging.specs.declared.Binders.{Binders}
use Rattle.judging.specs.Stack.{outermost, Rebinds}
use Rattle.filling.specs.Filling.{env_of, Fills}
use Rattle.filling.proofs.Coming.{one_left, entered, room_two}
use Rattle.filling.proofs.FillLaws.{AfterFirst, AfterSecond, AfterThird, child_none, first_asks, first_stops, first_deep, first_done, second_asks, second_stops, second_deep, second_done, third_asks, third_stops, third_done, settle_asks, fills_settled}
use Rattle.filling.proofs.Filler.+tree.Goals as goal
use Rattle.filling.proofs.Filler.+tree.Goals.{Joined-r-eq0, then-r-eq0, else-r-eq0+in_ok-x, Joined-s-eq0, then-s-eq0, else-s-eq0+in_ok-y, Joined-e-eq0, then-e-eq0, else-e-eq0+in_ok-z}

pub overflow_sub-self : goal.overflow_sub-self
overflow_sub-self t c = one_left c.requires

pub push_first-requires : goal.push_first-requires
push_first-requires t c = room_two (entered c.requires)

pub tree-requires : goal.tree-requires
tree-requires t c = (omega (arith, one_left c.requires), first_asks c.requires c.record_no-r.ensures c.of-kind.ensures c.push_first.ensures c.if-r-eq0.false)

pub returns-in_err-x : goal.returns-in_err-x
returns-in_err-x t c =
    let p = err_from_is_err_and c.from_residual.result c.from_residual.ensures.1 in
    rw (p.1, p.2) (first_stops c.requires c.record_no-r.ensures c.of-kind.ensures c.push_first.ensures c.first_level.ensures c.in_err-x.ensures)

-- The first child's tree is done.
first_filled : (t : ℕ) (c : Joined-r-eq0 t)
    → Fills (record c.args.self.now { binders = c.push_first.new.binders; left = c.args.self.now.left - 1 }) c.if-r-eq0.self (first_level (kind_meant c.of-kind.result) c.args.level) c.record_no-r.result.first (Ok c.if-r-eq0.x)
first_filled t c = elim c.if-r-eq0.branch [
  | then-r-eq0 w ↦ rw (w.self-is, w.x-is) (child_none _ _ _ c.requires.few w.if-r-eq0.true)
  | else-r-eq0+in_ok-x w ↦ rw (w.self-is, w.x-is, ← w.first_level.ensures) w.in_ok-x.ensures
]

after_first : (t : ℕ) (c : Joined-r-eq0 t) {b : Binders} → Rebinds c.if-r-eq0.self.binders b (outermost c.depth-depth.result (env_of c.if-r-eq0.self))
    → AfterFirst c.args.self.now c.args.level c.args.n (record c.if-r-eq0.self { binders = b }) c.if-r-eq0.x
after_first t c = first_done c.requires c.record_no-r.ensures c.of-kind.ensures c.push_first.ensures _ _ (first_filled t c) c.depth-depth.ensures

pub truncate-requires : goal.truncate-requires
truncate-requires t c = first_deep c.requires c.record_no-r.ensures c.of-kind.ensures c.push_first.ensures _ _ (first_filled t (goal.at.truncate-requires t c).Joined-r-eq0) c.depth-depth.ensures

pub push_second-requires : goal.push_second-requires
push_second-requires t c = room_two (after_first t (goal.at.push_second-requires t c).Joined-r-eq0 c.truncate.ensures).come

pub tree-requires-else-s-eq0 : goal.tree-requires-else-s-eq0
tree-requires-else-s-eq0 t c =
    let one = after_first t (goal.at.tree-requires-else-s-eq0 t c).Joined-r-eq0 c.truncate.ensures in
    (omega (arith, one.come.less), second_asks c.record_no-r.ensures c.of-kind.ensures c.next_of-s.ensures one c.push_second.ensures c.if-s-eq0.false)

pub returns-in_err-y : goal.returns-in_err-y
returns-in_err-y t c =
    let one = after_first t (goal.at.returns-in_err-y t c).Joined-r-eq0 c.truncate.ensures in
    let p = err_from_is_err_and c.from_residual-in_err-y.result c.from_residual-in_err-y.ensures.1 in
    rw (p.1, p.2) (second_stops c.record_no-r.ensures c.of-kind.ensures c.next_of-s.ensures one c.push_second.ensures c.in_err-y.ensures)

-- The second child's tree is done.
second_filled : (t : ℕ) (c : Joined-s-eq0 t) → AfterFirst c.args.self.now c.args.level c.args.n (record c.if-r-eq0.self { binders = c.truncate.new.self }) c.if-r-eq0.x
    → Fills (record c.if-r-eq0.self { binders = c.push_second.new.binders }) c.if-s-eq0.self c.args.level c.next_of-s.result (Ok c.if-s-eq0.y)
second_filled t c one = elim c.if-s-eq0.branch [
  | then-s-eq0 w ↦ rw (w.self-is, w.y-is) (child_none _ _ _ one.come.few w.if-s-eq0.true)
  | else-s-eq0+in_ok-y w ↦ rw (w.self-is, w.y-is) w.in_ok-y.ensures
]

after_second : (t : ℕ) (c : Joined-s-eq0 t) → AfterFirst c.args.self.now c.args.level c.args.n (record c.if-r-eq0.self { binders = c.truncate.new.self }) c.if-r-eq0.x
    → {b : Binders} → Rebinds c.if-s-eq0.self.binders b (outermost c.depth-depth.result (env_of c.if-s-eq0.self))
    → AfterSecond c.args.self.now c.args.level c.args.n c.if-r-eq0.x (record c.if-s-eq0.self { binders = b }) c.if-s-eq0.y
after_second t c one = second_done c.record_no-r.ensures c.of-kind.ensures c.next_of-s.ensures one c.push_second.ensures _ _ (second_filled t c one) c.depth-depth.ensures

pub truncate-requires-2 : goal.truncate-requires-2
truncate-requires-2 t c =
    let one = after_first t (goal.at.truncate-requires-2 t c).Joined-r-eq0 c.truncate.ensures in
    second_deep c.record_no-r.ensures c.of-kind.ensures c.next_of-s.ensures one c.push_second.ensures _ _ (second_filled t (goal.at.truncate-requires-2 t c).Joined-s-eq0 one) c.depth-depth.ensures

pub tree-requires-else-e-eq0 : goal.tree-requires-else-e-eq0
tree-requires-else-e-eq0 t c =
    let one = after_first t (goal.at.tree-requires-else-e-eq0 t c).Joined-r-eq0 c.truncate.ensures in
    let two = after_second t (goal.at.tree-requires-else-e-eq0 t c).Joined-s-eq0 one c.truncate-2.ensures in
    (omega (arith, two.come.less), third_asks c.record_no-r.ensures c.next_of-s.ensures c.next_of-e.ensures two c.if-e-eq0.false)

pub returns-in_err-z : goal.returns-in_err-z
returns-in_err-z t c =
    let one = after_first t (goal.at.returns-in_err-z t c).Joined-r-eq0 c.truncate.ensures in
    let two = after_second t (goal.at.returns-in_err-z t c).Joined-s-eq0 one c.truncate-2.ensures in
    let p = err_from_is_err_and c.from_residual-in_err-z.result c.from_residual-in_err-z.ensures.1 in
    rw (p.1, p.2) (third_stops c.record_no-r.ensures c.next_of-s.ensures c.next_of-e.ensures two c.in_err-z.ensures)

-- The third child's tree is done.
after_third : (t : ℕ) (c : Joined-e-eq0 t) → AfterSecond c.args.self.now c.args.level c.args.n c.if-r-eq0.x (record c.if-s-eq0.self { binders = c.truncate-2.new.self }) c.if-s-eq0.y
    → AfterThird c.args.self.now c.args.level c.args.n c.if-r-eq0.x c.if-s-eq0.y c.if-e-eq0.self c.if-e-eq0.z
after_third t c two =
    third_done c.record_no-r.ensures c.next_of-s.ensures c.next_of-e.ensures two _ _
    (elim c.if-e-eq0.branch [
      | then-e-eq0 w ↦ rw (w.self-is, w.z-is) (child_none _ _ _ two.come.few w.if-e-eq0.true)
      | else-e-eq0+in_ok-z w ↦ rw (w.self-is, w.z-is) w.in_ok-z.ensures
    ])

pub settle-requires : goal.settle-requires
settle-requires t c =
    let one = after_first t (goal.at.settle-requires t c).Joined-r-eq0 c.truncate.ensures in
    let two = after_second t (goal.at.settle-requires t c).Joined-s-eq0 one c.truncate-2.ensures in
    settle_asks c.record_no-r.ensures (after_third t (goal.at.settle-requires t c).Joined-e-eq0 two) refl

pub returns : goal.returns
returns t c =
    let one = after_first t (goal.at.returns t c).Joined-r-eq0 c.truncate.ensures in
    let two = after_second t (goal.at.returns t c).Joined-s-eq0 one c.truncate-2.ensures in
    fills_settled c.record_no-r.ensures (after_third t (goal.at.returns t c).Joined-e-eq0 two) refl c.settle.ensures
