-- `State::settle` and `State::write_out`: the frames are closed, and the whole term stands from slot 0 on. `settling` and `putting_out` for search.
use Prim.Native.Nat.{ℕ, ◌*◌, ◌≤◌}
use native.Mathlib.Omega.{arith}
use mathlib.Core.List.{List, []}
use mathlib.Core.Path.{◌≡◌, subst}
use lib.ListN.{length, take}
use Rattle.rules.specs.Terms.{Term, size}
use Rattle.rules.specs.Types.{Table}
use Rattle.rules.specs.Format.{Record, most_records}
use Rattle.records.specs.View.{records_in}
use Rattle.terms.specs.Preorder.{At}
use Rattle.contexts.specs.Contexts.{Context, left_size}
use Rattle.zipper.specs.declared.focus.Focus.{Focus}
use Rattle.zipper.specs.declared.focus.Ahead.{Ahead}
use Rattle.navigation.specs.declared.ascending.Turn.TheVariants.{Next, Value, Redex, Match}
use Rattle.zipper.specs.Focusing.{LaidAt, HasAhead, Brings, ClosesAll}
use Rattle.navigation.specs.Ascending.{Held, Sought, valued, redex, matched}
use Rattle.writing.specs.Program.{ProgramFits, CanWriteProgram, WritesProgram}
use Rattle.writing.proofs.Fronts.{front_within, front_fits, front_long}
use Rattle.steps.specs.declared.state.State.{State}
use Rattle.steps.specs.Stepping.{Runs, HasRun}
use Rattle.steps.specs.Output.{LaidOut, Settles, CanWriteOut, WritesOut}
use Rattle.seeking.proofs.SearchLoop.{sought_over}
use Rattle.steps.proofs.Values.{runs_few}

-- The focus of what was sought.
laid_out : (types : Table) (rs : List Record) (z : Focus) (level : ℕ) (C : Context) (u t : Term) → Held types rs z level C u t → LaidOut types rs z t
laid_out types rs z level C u t h = record { context = C; focus = u; laid = h.laid; same = h.same; typed = h.typed }

module _ (rs : List Record) (s : State) where
  module _ (a : Ahead) (e : s.turn ≡ Next a) where
    pub settle_brings : HasRun rs s → HasAhead rs a
    settle_brings h = absurd (sought_over h.types rs h.term (Next a) (subst (Sought h.types rs h.term) e h.runs.found))

    pub settle_brought : (rs' : List Record) (z : Focus) → Brings rs rs' a z → Settles rs rs' s z
    settle_brought rs' z b = record { does = λ types t h. absurd (sought_over types rs t (Next a) (subst (Sought types rs t) e h.found)) }

  pub settle_value : (z : Focus) → s.turn ≡ Value z → Settles rs rs s z
  settle_value z e = record { does = λ types t h. go types t (subst (Sought types rs t) e h.found) }
    where
      go : (types : Table) (t : Term) → Sought types rs t (Value z) → LaidOut types rs z t
      go types t (valued _ v h) = laid_out types rs z _ _ _ t h

  pub settle_redex : (z : Focus) (level : ℕ) → s.turn ≡ Redex z level → Settles rs rs s z
  settle_redex z level e = record { does = λ types t h. go types t (subst (Sought types rs t) e h.found) }
    where
      go : (types : Table) (t : Term) → Sought types rs t (Redex z level) → LaidOut types rs z t
      go types t (redex _ _ C u h r c n) = laid_out types rs z _ _ _ t h

  pub settle_match : (z : Focus) → s.turn ≡ Match z → Settles rs rs s z
  settle_match z e = record { does = λ types t h. go types t (subst (Sought types rs t) e h.found) }
    where
      go : (types : Table) (t : Term) → Sought types rs t (Match z) → LaidOut types rs z t
      go types t (matched _ k f v w C q h l r c) = laid_out types rs z _ _ _ t h

pub ruleset settling = (settle_brings, settle_brought, settle_value, settle_redex, settle_match)

module _ (table : List ℕ) (rs : List Record) (s : State) (out : List ℕ) (h : CanWriteOut table rs s out) where
  module _ (rs₁ : List Record) (z : Focus) (st : Settles rs rs₁ s z) (work : List ℕ) (w : Focus) (cl : ClosesAll rs₁ (records_in work) z w) where
    module _ (rules : Table) (t : Term) (r : Runs rules rs s t) where
      laid : LaidAt (records_in work) w [] t
      laid = let k = st.does rules t r in rw k.same at (cl.does rules k.context k.focus k.laid (rw k.same k.typed))

      at_zero : w.s ≡ 0
      unfolding left_size
      at_zero = laid.around.start

      at_front : At (records_in work) 0 t
      at_front = record { there = rw at_zero at laid.focus }

      size_is : size t ≡ w.l
      size_is = omega (arith, laid.end, at_zero)

      fits_out : ProgramFits table (records_in (take (16 * w.l) work)) out t
      fits_out =
          let few : w.l ≤ most_records = omega (arith, size_is, runs_few rules rs s t r) in
          front_fits work w.l t size_is at_front h.entries h.some_types h.few_types few (omega (arith, h.few_types, h.room))

    pub out_within : 16 * w.l ≤ length work
    out_within = front_within work w.l h.term (size_is h.rules h.term h.runs) (at_front h.rules h.term h.runs)

    pub out_fits : CanWriteProgram table (records_in (take (16 * w.l) work)) out
    out_fits = record { tree = h.term; can = fits_out h.rules h.term h.runs }

    pub out_written : (out' : List ℕ) (r : ℕ) → WritesProgram table (records_in (take (16 * w.l) work)) out out' r → WritesOut table rs s out out' r
    out_written out' r d =
        let few = runs_few h.rules rs s h.term h.runs in
        record { does = λ rules t k. d.does t (fits_out rules t k); short = omega (arith, (d.does h.term (fits_out h.rules h.term h.runs)).long, h.few_types) }

pub ruleset putting_out = (out_within, front_long, out_fits, out_written)
