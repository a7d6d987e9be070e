-- `State::start`: a program's first term is loaded to the last slots, and is to be searched. `starting` for search.
use Prim.Native.Nat.{ℕ, ◌-◌}
use native.Mathlib.Omega.{arith}
use mathlib.Core.List.{List, []}
use mathlib.Core.Path.{◌≡◌, refl, subst}
use lib.ListN.{length}
use Rattle.rules.specs.Types.{Table}
use Rattle.rules.specs.Typing.{Typed}
use Rattle.rules.specs.Format.{Record}
use Rattle.rules.specs.Links.{root_tree, tree_of}
use Rattle.rules.proofs.FreeBounds.{typed_bound}
use Rattle.terms.specs.Preorder.{preorder, At, Stored}
use Rattle.terms.specs.Loads.{CanLoad}
use Rattle.terms.proofs.Storing.{stored_length, stored_at}
use Rattle.contexts.specs.Contexts.{plug, level_at, left_size, Evaluation}
use Rattle.contexts.specs.Sides.{right_size, top_place}
use Rattle.zipper.specs.declared.focus.Ahead.{Ahead}
use Rattle.navigation.specs.declared.ascending.Turn.TheVariants.{Next}
use Rattle.zipper.specs.Layout.{left_records, right_records}
use Rattle.navigation.specs.Ascending.{HeldAhead, next}
use Rattle.steps.specs.Starting.{CanStart, Starts}

-- The whole term as the focus, in the last slots.
abbrev first_focus : ℕ → Ahead
first_focus r = record { l = 0; r = r; top = 0; level = 0 }

module _ (program : List Record) (count : ℕ) (c : count ≡ length program) (rs : List Record) (h : CanStart program rs) where
  pub start_loads : CanLoad program 1 count rs (4096 - count)
  start_loads =
      let bound = typed_bound h.types [] 0 (root_tree program) h.typed in
      record {
        linked = h.linked;
        within = record { some = omega arith; most = omega (arith, h.some) };
        enough = omega arith;
        room = rw c (omega (arith, h.whole, h.few, h.room));
        small = rw c (omega (arith, h.whole, h.few));
      }

  module _ (rs' : List Record) (e : ℕ) (l : Stored rs rs' (4096 - count) (preorder (tree_of count program 1)) e) where
    first_held : (types : Table) → Typed types [] 0 (root_tree program) → HeldAhead types rs' (first_focus (4096 - count)) [] (root_tree program) (root_tree program)
    unfolding plug level_at left_size Evaluation right_size top_place left_records right_records
    first_held types y =
        let long = stored_length l in
        let loaded : At rs' (4096 - count) (root_tree program) = subst (λ n. At rs' (4096 - count) (tree_of n program 1)) c (stored_at (tree_of count program 1) l start_loads.room) in
        record {
          laid = record {
            around = record {
              left = record { within = omega (arith, long, h.room); is = refl };
              right = record { within = omega (arith, long, h.room, h.whole, h.few); is = refl };
              start = refl;
              whole = omega (arith, h.whole, h.few);
              room = omega (arith, long, h.room);
              frame = refl;
            };
            focus = loaded.there;
            end = refl;
            gap = omega (arith, h.few);
          };
          evaluation = tt;
          at_level = refl;
          same = refl;
          typed = y;
        }

    pub start_holds : Starts program rs' (record { turn = Next (first_focus (4096 - count)); steps = 0 })
    start_holds = record {
      holds = λ types y. record { turned = next (first_focus (4096 - count)) [] (root_tree program) (first_held types y) (omega arith) };
      steps = refl;
    }

pub ruleset starting = (start_loads, start_holds)
