-- From a term with its focus to the record that is rewritten next.
pub mod Seeking
