pub mod MoreAnswers
