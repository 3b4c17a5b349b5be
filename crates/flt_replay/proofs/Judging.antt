-- What comes of an entry: its transitions, and the rules that they break.
pub mod Courses
pub mod Judgements
pub mod Lesser
pub mod Rules
pub mod RulesAfter
pub mod Scenes
