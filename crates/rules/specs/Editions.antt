-- Editions: what a program may use. The rules that ask it are those of a program, from its fields on; terms and steps know all kinds and no
-- edition.
use Rattle.std.specs.Prelude.{ℕ, ◌≤◌}
use Rattle.rules.specs.Kinds.{highest_kind}

pub record Edition : Type 0 where
  -- Its kinds are numbered from 1 to this one.
  pub last_kind : ℕ

-- Document 01's: the kinds of its table.
abbrev pub first_edition : Edition
first_edition = record { last_kind = 14 }

-- It has no kind but those of the table, and it has each of them.
abbrev pub HasKnownKinds : Edition → Type 0
HasKnownKinds edition = edition.last_kind ≤ highest_kind

abbrev pub HasEveryKind : Edition → Type 0
HasEveryKind edition = highest_kind ≤ edition.last_kind
