-- `State::proceed`: the contractum fills the hole, and the state tells the event. `proceeding` for search.
use Prim.Native.Nat.{◌+◌, ◌≤◌}
use native.Mathlib.Omega.{arith}
use mathlib.Core.List.{List, []}
use mathlib.Core.Logic.{inl, inr, ⊎_elim}
use mathlib.Core.Path.{◌≡◌, refl, sym, ◌∙◌}
use mir.Syntax.{w32}
use mir.Val.{Fits}
use Rattle.rules.specs.Terms.{Term, size}
use Rattle.rules.specs.Types.{Table}
use Rattle.rules.specs.Format.{Record, most_records}
use Rattle.rules.proofs.Agree.{agree}
use Rattle.rules.proofs.Events.{Within, within}
use Rattle.contexts.specs.Contexts.{plug}
use Rattle.contexts.proofs.Sides.{size_plugged}
use Rattle.terms.specs.Preorder.{There}
use Rattle.zipper.specs.declared.focus.Ahead.{Ahead}
use Rattle.navigation.specs.declared.ascending.Turn.TheVariants.{Next}
use Rattle.zipper.specs.Layout.{left_records, right_records}
use Rattle.zipper.specs.Moving.{Fills, CanPutAhead, PutsAhead}
use Rattle.navigation.specs.Ascending.{HeldAhead, next}
use Rattle.zipper.proofs.Sides.{length_left}
use Rattle.contraction.specs.declared.making.Block.{Block}
use Rattle.contraction.specs.Making.{Makes, CanMake, Made, MakesBlock}
use Rattle.steps.specs.declared.state.State.{State}
use Rattle.steps.specs.declared.events.Event.{Event}
use Rattle.steps.specs.declared.state.Aim.{Aim}
use Rattle.steps.specs.Stepping.{running}
use Rattle.steps.specs.Contracting.{Contracting, Roomy, CanProceed, Proceeds}
use Rattle.steps.proofs.Values.{runs_few}

module _ {types : Table} {rs : List Record} {s : State} {a : Aim} {whole : Term} (k : Contracting types rs s a whole) where
  -- The next term's records: those around the hole, and the contractum's.
  pub next_size : size (plug k.context k.contractum) + a.hole.r ≡ a.hole.l + size k.contractum + 4096
  next_size = omega (arith, size_plugged k.context k.contractum, k.around.start, k.around.whole)

  pub wide : a.hole.l + most_records ≤ a.hole.r
  wide = omega (arith, k.after_hole, k.gap, k.before_right)

  pub inside : a.hole.r ≤ 4096
  inside = omega (arith, k.around.whole)

  -- No field of the event is larger than the term.
  event_within : Within whole k.becomes.event × (size whole ≤ most_records)
  event_within = (within ((agree types 0 k.becomes.event whole (plug k.context k.contractum)).0 k.becomes.is_next), runs_few types rs s whole k.runs)

  module _ (room : Roomy k) where
    makes : Makes rs a.plan a.free k.end a.hole.r k.becomes.event.replaced k.contractum
    makes = record {
      planned = k.planned;
      room = omega (arith, room, inside, k.gap);
      within = omega (arith, inside, k.before_right, k.around.room);
      few = omega (arith, inside, k.before_right);
    }

    module _ {rs₁ : List Record} {block : Block} (m : MakesBlock rs rs₁ a.plan a.free block) where
      made : Made rs rs₁ a.free k.end a.hole.r k.becomes.event.replaced k.contractum block
      made = m.does k.end a.hole.r k.becomes.event.replaced k.contractum makes

      fills : Fills rs₁ a.hole block.at block.size k.context k.contractum
      fills =
          let last : There rs₁ 4096 [] = made.others 4096 [] (record { within = omega (arith, k.around.room); is = refl }) (inr (omega (arith, inside, k.before_right))) in
          record {
            hole = record {
              left = made.others 0 (left_records k.context) k.around.left (inl (omega (arith, length_left k.context, k.around.start, k.after_hole)));
              right = made.others a.hole.r (right_records k.context) k.around.right (inr k.before_right);
              start = k.around.start;
              whole = k.around.whole;
              room = omega (arith, last.within);
              frame = k.around.frame;
            };
            there = made.there;
            count = made.long;
            to = ⊎_elim (λ x. omega (arith, made.long, k.before_right)) (λ (x, y). omega (arith, made.long)) made.clear;
            room = omega (arith, room, made.long);
          }

      held : (rs₂ : List Record) (b : Ahead) → PutsAhead rs₁ rs₂ a.hole block.at block.size b
          → HeldAhead types rs₂ b k.context k.contractum (plug k.context k.contractum)
      held rs₂ b p = record {
        laid = p.does k.context k.contractum fills;
        evaluation = k.evaluation;
        at_level = p.level ∙ k.at_level;
        same = refl;
        typed = k.typed;
      }

module _ (rs : List Record) (s : State) (a : Aim) (h : CanProceed rs s a) where
  pub proceed_makes : CanMake rs a.plan a.free
  proceed_makes = let k = h.contracting in record { hi = k.end; end = a.hole.r; replaced = k.becomes.event.replaced; contractum = k.contractum; makes = makes k h.room }

  module _ (rs₁ : List Record) (block : Block) (m : MakesBlock rs rs₁ a.plan a.free block) where
    pub proceed_puts : CanPutAhead rs₁ a.hole block.at block.size
    proceed_puts = let k = h.contracting in record { context = k.context; tree = k.contractum; fills = fills k h.room m }

    pub proceed_replaced : Fits w32 block.replaced
    proceed_replaced = let (w, few) = event_within h.contracting in omega (arith, (made h.contracting h.room m).counted, w.few)

    module _ (rs₂ : List Record) (b : Ahead) (p : PutsAhead rs₁ rs₂ a.hole block.at block.size b) where
      abbrev event : Event
      event = record { rule = a.rule; place = a.hole.l + 1; replaced = block.replaced }

      pub proceed_made : Proceeds rs rs₂ s a (record { next = b; event = event })
      proceed_made = record {
        does = λ types whole k room.
            let u = plug k.context k.contractum in
            let counted = (made k room m).counted in
            running (record { state = record { turn = Next b; steps = s.steps + 1 }; event = event }) u k.becomes (omega (arith, next_size k, room, inside k))
            (record { turned = next b k.context k.contractum (held k room m rs₂ b p) (omega arith) }) refl
            (λ i. record { rule = k.ruled i; place = sym k.placed i; replaced = counted i });
      }

pub ruleset proceeding = (proceed_makes, proceed_puts, proceed_replaced, proceed_made)
