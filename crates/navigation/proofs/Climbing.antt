-- `ascend`: the turns of its loop. `climbing` for search.
use Prim.Native.Nat.{ℕ, ◌≤◌, ◌<◌}
use native.Mathlib.Omega.{arith}
use mathlib.Core.List.{List}
use mathlib.Core.Bool.{Bool, true, false}
use mathlib.Core.Logic.{◌≢◌}
use mathlib.Core.Path.{◌≡◌, sym, ◌∙◌}
use Rattle.rules.specs.Terms.{Term}
use Rattle.rules.specs.Types.{Table}
use Rattle.rules.specs.Contractions.{contracts}
use Rattle.rules.specs.Format.{Record}
use Rattle.kinds.specs.declared.names.Kind.{Kind as NamedKind}
use Rattle.kinds.specs.Named.{kind_meant}
use Rattle.contexts.specs.Contexts.{outer_level, Context}
use Rattle.zipper.specs.declared.focus.Focus.{Focus}
use Rattle.navigation.specs.declared.ascending.Turn.TheVariants.{Next, Value, Redex, Match}
use Rattle.kinds.specs.Named.{is_match}
use Rattle.kinds.proofs.Named.{match_children, other_children}
use Rattle.terms.specs.Measuring.{HasKind, KindIs}
use Rattle.zipper.specs.Focusing.{CanClose, Closes}
use Rattle.navigation.specs.Ascending.{Rests, CanTellNext, TellsNext, sought, CanAscend, Ascends}
use Rattle.zipper.proofs.Rows.{frame_known}
use Rattle.navigation.proofs.Turns.{RestsIn, Framed, framed, outermost, frame_held, frame_tells, frame_closes, hole_goes_on, match_stays, closed_outward, closed_onward, closed_redex, closed_done}

-- The focus is done at each turn, and the right side only gets shorter.
pub record Climbing (rs₀ : List Record) (z₀ : Focus) (l₀ : ℕ) (rs : List Record) (z : Focus) (l : ℕ) : Type 0 where
  keeps : (types : Table) (C : Context) (t whole : Term) → Rests types rs₀ z₀ l₀ C t whole → RestsIn types rs z l whole
  onward : z₀.r ≤ z.r
  some : CanAscend rs₀ z₀ l₀

pub climb_starts : (rs : List Record) (z : Focus) (l : ℕ) → CanAscend rs z l → Climbing rs z l rs z l
climb_starts rs z l h = record { keeps = λ types C t whole r. record { context = C; focus = t; rests = r }; onward = omega arith; some = h }

module _ (rs₀ : List Record) (z₀ : Focus) (l₀ : ℕ) (rs : List Record) (z : Focus) (l : ℕ) (i : Climbing rs₀ z₀ l₀ rs z l) where
  pub climb_value : z.s ≡ 0 → Ascends rs₀ rs z₀ l₀ (Value z)
  climb_value e = record { does = λ types C t whole h. sought _ (outermost e (i.keeps types C t whole h)) }

  module _ (n : z.s ≢ 0) where
    each : (types : Table) (C : Context) (t whole : Term) → Rests types rs₀ z₀ l₀ C t whole → Framed types rs z l whole
    each types C t whole h = framed n (i.keeps types C t whole h)

    one : Framed i.some.types rs z l i.some.whole
    one = each i.some.types i.some.context i.some.focus i.some.whole i.some.rests

    pub climb_known : HasKind rs z.top
    climb_known = frame_known rs z (frame_held one)

    pub climb_closes : CanClose rs z
    climb_closes = frame_closes one

    module _ (k : NamedKind) (lv : ℕ) (kd : KindIs rs z.top k) (v : lv ≡ outer_level (kind_meant k) l) where
      pub climb_tells : CanTellNext rs z lv
      climb_tells = frame_tells one k lv kd v

      pub climb_low : lv ≤ 1
      climb_low = climb_tells.low

      module _ (b : Bool) (tn : TellsNext rs z lv b) where
        pub climb_next : b ≡ true → Ascends rs₀ rs z₀ l₀ (Next (record { l = z.l; r = z.r; top = z.top; level = l }))
        climb_next e = record { does = λ types C t whole h. hole_goes_on (each types C t whole h) k lv kd v b tn e z₀.r i.onward }

        module _ (e : b ≡ false) where
          pub climb_match : (m : Bool) → m ≡ is_match (kind_meant k) → m ≡ true → Ascends rs₀ rs z₀ l₀ (Match z)
          climb_match m o q = record { does = λ types C t whole h. sought _ (match_stays (each types C t whole h) k lv kd v b tn e (match_children (kind_meant k) (sym o ∙ q))) }

          module _ (rs' : List Record) (r : Focus) (cl : Closes rs rs' z r) where
            pub climb_less : r.s < z.s
            climb_less = closed_outward one k lv kd v b tn e rs' r cl

            module _ (y : Bool) (o : y ≡ contracts lv (kind_meant k)) where
              pub climb_redex : y ≡ true → (m : Bool) → m ≡ is_match (kind_meant k) → m ≡ false → Ascends rs₀ rs' z₀ l₀ (Redex r lv)
              climb_redex q m j n = record { does = λ types C t whole h. sought _ (closed_redex (each types C t whole h) k lv kd v b tn e rs' r cl y o q (other_children (kind_meant k) (sym j ∙ n))) }

              pub climb_more : y ≡ false → Climbing rs₀ z₀ l₀ rs' r lv
              climb_more q = record {
                keeps = λ types C t whole h. closed_done (each types C t whole h) k lv kd v b tn e rs' r cl y o q;
                onward = omega (arith, i.onward, closed_onward one k lv kd v b tn e rs' r cl);
                some = i.some;
              }

pub ruleset climbing = (climb_starts, climb_value, climb_known, climb_closes, climb_tells, climb_low, climb_next, climb_match, climb_less, climb_redex, climb_more)
