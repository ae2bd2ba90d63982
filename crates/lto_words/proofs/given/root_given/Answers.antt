use Rattle.std.proofs.Common.{◌≡◌, ◌∙◌, Ok, ap, codes, sym}
use Rattle.std.specs.Prelude.{option_map}
use Rattle.clap.specs.Words.{first_of}
use Rattle.lto_words.specs.Given.{rows_in}
use Rattle.lto_words.specs.Values.{IsName}
use Rattle.lto_words.proofs.Reading.{none_given, text_given}
use Rattle.lto_words.proofs.given.root_given.Goals as goal

pub returns-in-Some : goal.returns-in-Some
returns-in-Some c = text_given (λ name. name ≡ codes "main") IsName (first_of (codes "root") (rows_in c.args.matches.now)) _ c.symbol.result (ap (option_map (λ s. s.now)) (sym c.in-Some.is) ∙ c.given.ensures) c.symbol.ensures

pub returns-in_ok-copied-in-None : goal.returns-in_ok-copied-in-None
returns-in_ok-copied-in-None c = none_given (λ name. name ≡ codes "main") IsName (first_of (codes "root") (rows_in c.args.matches.now)) (Ok c.in_ok-copied-in-None.field-0) (ap (option_map (λ s. s.now)) (sym c.in-None.is) ∙ c.given.ensures) c.in_ok-copied-in-None.ensures
