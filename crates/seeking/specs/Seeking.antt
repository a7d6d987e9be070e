-- From a focus that is to be searched to the record that is rewritten next. The term stays the same.
use Rattle.std.specs.Prelude.{◌+◌, List}
use Rattle.rules.specs.Terms.{Term}
use Rattle.rules.specs.Types.{Table}
use Rattle.rules.specs.Format.{Record}
use Rattle.contexts.specs.Contexts.{Context}
use Rattle.zipper.specs.declared.focus.Ahead.{Ahead}
use Rattle.navigation.specs.declared.ascending.Turn.{Turn}
use Rattle.navigation.specs.Ascending.{HeldAhead, Sought, Turned}

-- A typed term is laid out around a focus that is to be searched.
pub record CanSeek (rs : List Record) (a : Ahead) : Type 0 where
  pub types : Table
  pub context : Context
  pub focus : Term
  pub whole : Term
  pub held : HeldAhead types rs a context focus whole

-- After one search: what is found, or a next focus further to the right.
pub record Searches (rs rs' : List Record) (a : Ahead) (r : Turn) : Type 0 where
  pub does : (types : Table) (C : Context) (t whole : Term) → HeldAhead types rs a C t whole → Turned types rs' (a.r + 1) whole r

-- After all of them: a record that is rewritten, or a value.
pub record Seeks (rs rs' : List Record) (a : Ahead) (r : Turn) : Type 0 where
  pub does : (types : Table) (C : Context) (t whole : Term) → HeldAhead types rs a C t whole → Sought types rs' whole r
