-- `search`: a redex that is found in the focus is reached, and a focus in which none is found is done. `searching` for search.
use Prim.Native.Nat.{ℕ, ◌+◌, ◌≤◌}
use native.Mathlib.Omega.{arith}
use mathlib.Core.List.{List, []}
use mathlib.Core.Path.{◌≡◌, sym, ap, ◌∙◌}
use Rattle.rules.specs.Terms.{Term}
use Rattle.rules.specs.Types.{Table}
use Rattle.rules.specs.Format.{Record}
use Rattle.contexts.specs.Contexts.{Context, plug, level_at, binders_at}
use Rattle.contexts.proofs.Contexts.{level_append}
use Rattle.contexts.proofs.Inside.{levels_low, later_inside, typed_inside}
use Rattle.zipper.specs.declared.focus.Focus.{Focus}
use Rattle.zipper.specs.declared.focus.Ahead.{Ahead}
use Rattle.navigation.specs.declared.ascending.Turn.{Turn}
use Rattle.zipper.specs.Focusing.{HasAhead, Brings}
use Rattle.navigation.specs.Ascending.{HeldAhead, Rests, Turned, next, sought, CanAscend, Ascends, RedexIn, CanReach, Reaches}
use Rattle.redexes.specs.declared.Found.{Found}
use Rattle.redexes.specs.declared.Found.TheVariants.{Done, Redex}
use Rattle.redexes.specs.Finding.{find, CanFind, Finds}
use Rattle.redexes.specs.Located.{Located}
use Rattle.redexes.proofs.Located.{found_redex, found_done}
use Rattle.seeking.specs.Seeking.{CanSeek, Searches}

turned_from : (types : Table) (rs : List Record) (m n : ℕ) (whole : Term) (r : Turn) → m ≤ n → Turned types rs n whole r → Turned types rs m whole r
turned_from types rs m n whole _ l (next a C t h b) = next a C t h (omega arith)
turned_from types rs m n whole r l (sought _ h) = sought r h

module _ (rs : List Record) (a : Ahead) where
  pub search_finds : CanSeek rs a → CanFind rs a.r a.level
  search_finds h = record {
    has = record { tree = h.focus; there = record { there = h.held.laid.focus } };
    low = omega (arith, h.held.at_level, levels_low 0 h.context (omega arith));
  }

  module _ (f : Found) (finds : Finds a.level rs a.r f) where
    found_of : (types : Table) (C : Context) (t whole : Term) → HeldAhead types rs a C t whole → find (level_at 0 C) t a.r ≡ f
    found_of types C t whole k = ap (λ l. find l t a.r) (sym k.at_level) ∙ sym (finds.is t (record { there = k.laid.focus }))

    module _ (p : ℕ) (g : f ≡ Redex p) where
      located : (types : Table) (C : Context) (t whole : Term) → HeldAhead types rs a C t whole → Located (level_at 0 C) t a.r p
      located types C t whole k =
          found_redex types (level_at 0 C) (binders_at 0 [] C) t a.r (levels_low 0 C (omega arith)) (later_inside 0 [] C k.evaluation tt)
          (typed_inside types 0 [] C t (rw k.same k.typed)) p (found_of types C t whole k ∙ g)

      redex_in : (types : Table) (C : Context) (t whole : Term) (k : HeldAhead types rs a C t whole)
          → RedexIn types rs a p (located types C t whole k).context C (located types C t whole k).redex whole
      redex_in types C t whole k =
          let z = located types C t whole k in
          let e = level_append 0 z.context C in
          record {
            held = record {
              laid = rw z.same at k.laid;
              evaluation = k.evaluation;
              at_level = k.at_level;
              same = ap (plug C) (sym z.same) ∙ k.same;
              typed = k.typed;
            };
            evaluation = z.evaluation;
            place = z.place;
            ready = rw e z.ready;
            contracted = rw e z.contracted;
          }

      pub search_reaches : CanSeek rs a → CanReach rs a p
      search_reaches h = record { types = h.types; inner = _; context = h.context; tree = _; whole = h.whole; redex_in = redex_in h.types h.context h.focus h.whole h.held }

      pub search_reached : (rs' : List Record) (r : Turn) → Reaches rs rs' a p r → Searches rs rs' a r
      search_reached rs' r d = record { does = λ types C t whole k. sought r (d.does types _ C _ whole (redex_in types C t whole k)) }

    module _ (e : ℕ) (g : f ≡ Done e) where
      pub search_brings : CanSeek rs a → HasAhead rs a
      search_brings h = record { context = h.context; focus = h.focus; laid = h.held.laid }

      module _ (rs' : List Record) (z : Focus) (b : Brings rs rs' a z) where
        rests : (types : Table) (C : Context) (t whole : Term) → HeldAhead types rs a C t whole → Rests types rs' z a.level C t whole
        rests types C t whole k = record {
          held = record { laid = b.does C t k.laid; evaluation = k.evaluation; at_level = k.at_level; same = k.same; typed = k.typed };
          is_done =
              (found_done types (level_at 0 C) (binders_at 0 [] C) t a.r (levels_low 0 C (omega arith)) (later_inside 0 [] C k.evaluation tt)
              (typed_inside types 0 [] C t (rw k.same k.typed)) e (found_of types C t whole k ∙ g)).0;
        }

        pub search_ascends : CanSeek rs a → CanAscend rs' z a.level
        search_ascends h = record { types = h.types; context = h.context; focus = h.focus; whole = h.whole; rests = rests h.types h.context h.focus h.whole h.held }

        pub search_ascended : (rs'' : List Record) (r : Turn) → Ascends rs' rs'' z a.level r → Searches rs rs'' a r
        search_ascended rs'' r d = record {
          does = λ types C t whole k. turned_from types rs'' (a.r + 1) z.r whole r (omega (arith, b.onward)) (d.does types C t whole (rests types C t whole k));
        }

pub ruleset searching = (search_finds, search_reaches, search_reached, search_brings, search_ascends, search_ascended)
