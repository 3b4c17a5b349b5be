-- Why a command has no answer. This project's own program.
use Rattle.flt_syntax.specs.declared.fault.ParseError.{ParseError}
use Rattle.flt_syntax.specs.declared.fault.ParseError.TheVariants as parse
use Rattle.flt_syntax.specs.declared.texts.TextsFault.{TextsFault}
use Rattle.flt_syntax.specs.declared.texts.TextsFault.TheVariants as texts
use Rattle.flt_cert.specs.declared.fault.CertFault.{CertFault}
use Rattle.flt_cert.specs.declared.fault.CertFault.TheVariants as cert
use Rattle.flt_files.specs.declared.failure.Failure.{Failure}
use Rattle.flt_files.specs.declared.failure.Failure.TheVariants.{Certificate, FileSyntax, OutOfMemory, Syntax}

-- how a fault of a certificate is reported
abbrev pub of_certificate : CertFault → Failure
of_certificate (cert.Line n) = Certificate n
of_certificate cert.OutOfMemory = OutOfMemory

-- how a fault of a text is reported
abbrev pub of_parse : ParseError → Failure
of_parse (parse.Syntax f) = Syntax f
of_parse parse.OutOfMemory = OutOfMemory

-- how a fault of one of several texts is reported
abbrev pub of_texts : TextsFault → Failure
of_texts (texts.Syntax number f) = FileSyntax number f
of_texts texts.OutOfMemory = OutOfMemory
