mod CommandLaws
mod ScriptLaws
