-- Check: the refusals 3 to 12 as a function of the program's bytes, in their order, and what check returns.
use Rattle.std.specs.Prelude.{ℕ, zero, suc, ◌+◌, ◌-◌, ◌*◌, List, [], ◌∷◌, length, eqb}
use Rattle.std.proofs.Math.Option.{Option, none, some}
use Rattle.rules.specs.Lists.{pick, total}
use Rattle.rules.specs.Kinds.{Kind, leaf₀, unary₁, binary₂, ternary₃, kind_of}
use Rattle.rules.specs.Editions.{Edition}
use Rattle.rules.specs.Binders.{over_first, over_second}
use Rattle.rules.specs.Terms.{Fields}
use Rattle.rules.specs.Types.{Entry, Table, entry, Nat}
use Rattle.rules.specs.Conditions.{below, equal, between, same, same_entry, at_least, Rule}
use Rattle.rules.specs.FieldUses.{TypeFields, given, omitted, type_field, formed_besides}
use Rattle.rules.specs.Typing.{Env, under, first_level, bound, placed, typed}
use Rattle.rules.specs.Format.{Record, most_types, most_records, type_count, record_count, table_of, records_of, record_no}
use Rattle.rules.specs.Links.{first_of, next_of}
use Rattle.rules.specs.Refusals.{Refusal, program_short, bad_counts, bad_length, bad_entry, bad_field, bad_link, bad_children, bad_index, bad_level, bad_type, type_written, unless, ◌then◌, lowest}

-- 4: "T type entries (1 to 256) and R records (1 to 2,048)".
abbrev pub counts_rule : ℕ → ℕ → Rule
counts_rule T R = between 1 T most_types ∷ between 1 R most_records ∷ []

-- 6: "Kind 1 is Nat (a = b = 0). Kind 2 is Fn(a,b) .. Kind 3 is Code(a), with b = 0. Parts are numbers of earlier entries, counted from 1. No
-- entry is like an earlier one." n is the entry's number.
abbrev pub kind_rule : ℕ → Entry → Rule
kind_rule n x = pick (eqb x.kind 1) (same x Nat ∷ [])
    (pick (eqb x.kind 2) (between 1 x.a (n - 1) ∷ between 1 x.b (n - 1) ∷ [])
    (equal x.kind 3 ∷ between 1 x.a (n - 1) ∷ equal x.b 0 ∷ []))

-- How many of the entries before n are like entry n.
abbrev pub alike : Table → ℕ → ℕ
alike types n = total (λ m. pick (same_entry (entry types m) (entry types n)) 1 0) 1 (n - 1)

abbrev pub entry_rule : Table → ℕ → Rule
entry_rule types n = equal (alike types n) 0 ∷ kind_rule n (entry types n)

-- 7: the kind is one of the edition's, and its fields are good.
abbrev pub fields_rule : TypeFields → Edition → Table → Record → Rule
fields_rule fields edition types r = between 1 r.kind edition.last_kind ∷ type_field fields types r.fields.type ∷ formed_besides types (kind_of r.kind) r.fields

-- 8: "record that holds a bad link; record other than the root not named exactly once". A link is good that names its own number, or is 0 and
-- names nothing: so are just those that are 0, or above their record's number and at most R (theorem `good_link`).
abbrev pub is : ℕ → ℕ → ℕ
is m n = pick (eqb m n) 1 0

-- How many links name record m.
abbrev pub naming : List Record → ℕ → ℕ
naming rs m = total (λ n. is (first_of rs n) m + is (next_of rs n) m) 1 (length rs)

abbrev pub links_rule : List Record → ℕ → Rule
links_rule rs n = equal (record_no rs n).first (first_of rs n) ∷ equal (record_no rs n).next (next_of rs n) ∷ pick (eqb n 1) [] (equal (naming rs n) 1 ∷ [])

-- 9: the chain of a record's children, c, s, e and x, in which 0 is no record, is as long as its kind has children.
abbrev pub children : Kind → ℕ → ℕ → ℕ → ℕ → Rule
children (leaf₀ k) c s e x = equal c 0 ∷ []
children (unary₁ k) c s e x = below 0 c ∷ equal s 0 ∷ []
children (binary₂ k) c s e x = below 0 c ∷ below 0 s ∷ equal e 0 ∷ []
children (ternary₃ k) c s e x = below 0 c ∷ below 0 s ∷ below 0 e ∷ equal x 0 ∷ []

abbrev pub children_rule : List Record → ℕ → Rule
children_rule rs n =
    let c = first_of rs n in
    let s = next_of rs c in
    let e = next_of rs s in
    children (kind_of (record_no rs n).kind) c s e (next_of rs e)

-- The written type of record n.
abbrev pub type_no : List Record → ℕ → ℕ
type_no rs n = (record_no rs n).fields.type

-- 10 to 12 of one record: "with its lowest number of 10 to 12". Record n has kind k and fields f and stands at level l under Γ; x, y and z are its
-- children's types.
unfoldable pub judged : Table → Env → ℕ → ℕ → Kind → Fields → ℕ → ℕ → ℕ → Option Refusal
judged types Γ l n k f x y z = unless (bound Γ k f) bad_index n then unless (placed Γ l k f) bad_level n then unless (typed types Γ k f x y z) bad_type n

-- "The first faulty record in preorder is named", in the tree of record n at level l under Γ.
-- "Preorder is a record, then its children's trees in chain order": c, s and e are its children, a match's code, success and failure; 0 is no
-- record, and has no tree. Only a match binds variables over its second child, its success, and "kinds 12 to 14 bind one level-0 variable", kind
-- 11 two: so that child is walked under binders of level 0. `left` bounds the generations: links go up, so that
-- R are all (theorem `all_generations`).
unfoldable pub walked : ℕ → Table → List Record → Env → ℕ → ℕ → Option Refusal
walked zero types rs Γ l n = none
walked (suc left) types rs Γ l zero = none
walked (suc left) types rs Γ l (suc m) =
    let n = suc m in
    let f = (record_no rs n).fields in
    let k = kind_of (record_no rs n).kind in
    let c = first_of rs n in
    let s = next_of rs c in
    let e = next_of rs s in
    judged types Γ l n k f (type_no rs c) (type_no rs s) (type_no rs e)
    then walked left types rs (under l (over_first k f) Γ) (first_level k l) c
    then walked left types rs (under 0 (over_second k f) Γ) l s
    then walked left types rs Γ l e

-- 13: "a nonzero type field", where types are omitted.
abbrev pub omitted_rule : TypeFields → List Record → ℕ → Rule
omitted_rule given rs n = []
omitted_rule omitted rs n = equal (type_no rs n) 0 ∷ []

-- 6 to 9, of a table and records, and "13 .. right after 7, lowest record".
unfoldable pub form_refusal : TypeFields → Edition → Table → List Record → Option Refusal
form_refusal fields edition types rs =
    lowest (entry_rule types) bad_entry 1 (length types)
    then lowest (λ n. fields_rule fields edition types (record_no rs n)) bad_field 1 (length rs)
    then lowest (omitted_rule fields rs) type_written 1 (length rs)
    then lowest (links_rule rs) bad_link 1 (length rs)
    then lowest (children_rule rs) bad_children 1 (length rs)

-- 3, 4 and 5, of a program: "program under 4 bytes", "T or R outside its limits", "length isn't 4 + 6×T + 16×R".
unfoldable pub size_refusal : List ℕ → Option Refusal
size_refusal bytes =
    let T = type_count bytes in
    let R = record_count bytes in
    unless (at_least 4 (length bytes) ∷ []) program_short 0
    then unless (counts_rule T R) bad_counts 0
    then unless (equal (length bytes) (4 + 6 * T + 16 * R) ∷ []) bad_length 0

-- 3 to 9, of a program of the edition, with 13: what is asked of it before its types are looked at.
unfoldable pub layout_refusal : TypeFields → Edition → List ℕ → Option Refusal
layout_refusal fields edition bytes = size_refusal bytes then form_refusal fields edition (table_of bytes) (records_of bytes)

-- 3 to 12, of a program of the edition; `none` where it is passed. "The root stands at level 0 under no binders."
unfoldable pub refusal : Edition → List ℕ → Option Refusal
refusal edition bytes = layout_refusal given edition bytes then walked (length (records_of bytes)) (table_of bytes) (records_of bytes) [] 0 1

-- "Check takes a program and returns the root's type and R." "Every accepted answer has number and place 0." "A refusal returns number and
-- place, its other fields 0."
pub record CheckAnswer : Type 0 where
  pub number : ℕ
  pub place : ℕ
  pub root_type : ℕ
  pub records : ℕ

abbrev pub passing : ℕ → ℕ → CheckAnswer
passing root_type records = record { number = 0; place = 0; root_type = root_type; records = records }

abbrev pub failing : ℕ → ℕ → CheckAnswer
failing number place = record { number = number; place = place; root_type = 0; records = 0 }

unfoldable pub check_answer : Edition → List ℕ → CheckAnswer
check_answer edition bytes = elim (refusal edition bytes) [
  | none ↦ passing (type_no (records_of bytes) 1) (record_count bytes)
  | some r ↦ failing r.number r.place
]
