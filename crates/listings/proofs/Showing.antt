-- The listing of an input by its three texts: `showing` for search.
use Prim.Native.Nat.{ℕ, ◌-◌, ◌≤◌, ◌<◌}
use native.Mathlib.Omega.{arith}
use mathlib.Core.List.{List}
use mathlib.Core.Path.{◌≡◌, sym, subst, ap, ap₂, ◌∙◌}
use lib.ListN.{length, take, drop, length-drop}
use lib.Seq.{length-take-le, take_all}
use borrow.Author.Tests.{lt-ltb, le-ltb}
use Rattle.rules.specs.Format.{u32}
use Rattle.rules.specs.Refusals.{program_short}
use Rattle.records.specs.View.{records_in}
use Rattle.parts.specs.declared.Parts.{Parts}
use Rattle.parts.specs.Layout.{IsLaidOut, ArePartsOf}
use Rattle.run_call.specs.declared.RunAnswer.{RunAnswer}
use Rattle.run_call.specs.Answers.{Ran}
use Rattle.listing_text.specs.Text.{refused_text, accepted_text}
use Rattle.listing_text.specs.Buffers.{Listable, Prints}
use Rattle.listings.specs.Listing.{run_text, listing_of}
use Rattle.listings.specs.Lent.{Lent}
use Rattle.listings.proofs.Runs.{Listed, run_refused, run_listed}

module _ (input text text' : List ℕ) (n : ℕ) where
  pub fuel_short : (number : ℕ) → number ≡ program_short → length input < 4 → Prints text (refused_text number 0) text' n → Prints text (listing_of input) text' n
  unfolding listing_of
  fuel_short number e l h = rw (lt-ltb (length input) 4 l, listing_of) (rw e at h)

-- The program is what follows the fuel.
abbrev rest : List ℕ → List ℕ
rest input = take (length input - 4) (drop 4 input)

run_listing : (input : List ℕ) (fuel : ℕ) → 4 ≤ length input → fuel ≡ u32 input 0 → run_text (rest input) fuel ≡ listing_of input
unfolding listing_of
run_listing input fuel l e =
    rw (le-ltb (length input) 4 l, listing_of) (ap₂ run_text (take_all (length input - 4) (drop 4 input) (omega (arith, length-drop 4 input))) e)

module _ (out work text : List ℕ) (lent : Lent out work text) (input : List ℕ) (fuel : ℕ) (a : RunAnswer) (out' work' : List ℕ) (ran : Ran (rest input) fuel out work a out' work') where
  module _ (l : 4 ≤ length input) (e : fuel ≡ u32 input 0) (text' : List ℕ) (n : ℕ) where
    pub shows_refusal : (a.number ≡ 0 → ⊥) → Prints text (refused_text a.number a.place) text' n → Prints text (listing_of input) text' n
    shows_refusal z h = subst (λ s. Prints text s text' n)
        (run_refused (rest input) fuel out work lent.output_long lent.work_long a out' work' ran z ∙ run_listing input fuel l e) h

  module _ (z : a.number ≡ 0) where
    listed : Listed (rest input) fuel a out'
    listed = run_listed (rest input) fuel out work lent.output_long lent.work_long a out' work' ran z

    pub shows_to : a.written ≤ length out'
    shows_to = listed.to

    pub shows_long : a.written ≡ length (take a.written out')
    shows_long = sym (length-take-le a.written out' listed.to)

    pub shows_laid_out : IsLaidOut (take a.written out')
    shows_laid_out = listed.laid_out

    module _ (parts : Parts) (of : ArePartsOf (take a.written out') parts) where
      pub shows_records : Listable a.ending (records_in parts.records.now) text
      shows_records = record {
        some = listed.ending.0;
        known = listed.ending.1;
        few = rw of.records_are listed.few;
        room = omega (arith, ap length of.records_are, listed.few, lent.text_long);
      }

      pub shows_run : 4 ≤ length input → fuel ≡ u32 input 0 → (text' : List ℕ) (n : ℕ)
          → Prints text (accepted_text a.ending a.steps a.root_type (records_in parts.records.now)) text' n → Prints text (listing_of input) text' n
      shows_run l e text' n h = subst (λ s. Prints text s text' n)
          (ap (accepted_text a.ending a.steps a.root_type) of.records_are ∙ listed.text ∙ run_listing input fuel l e) h

pub ruleset showing = (fuel_short, shows_refusal, shows_to, shows_long, shows_laid_out, shows_records, shows_run)
