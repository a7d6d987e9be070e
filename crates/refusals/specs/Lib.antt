-- What a check reports of what the rules refuse.
pub mod Reports
