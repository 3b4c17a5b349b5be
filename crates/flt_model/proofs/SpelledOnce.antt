-- Journals with one spelling are one.
use Rattle.std.proofs.Common.{◌≡◌, ap, ◌∙◌}
use Rattle.std.specs.Prelude.{Ok}
use Rattle.flt_model.specs.JournalText.{Entries, IsJournal, spelling}
use Rattle.flt_model.specs.JournalTextReading.{Reading, journal}
use Rattle.flt_model.proofs.SpelledRead.{spelled_read}

same_value : (r : Reading) (a b : Entries) → r ≡ Ok a → r ≡ Ok b → a ≡ b
same_value r a b h k = cc

-- what a text is read as is the journal that it spells
pub spelled_once : (a b : Entries) → IsJournal a → IsJournal b → spelling a ≡ spelling b → a ≡ b
spelled_once a b good fine same = same_value (journal (spelling a)) a b (spelled_read a good) (ap journal same ∙ spelled_read b fine)
