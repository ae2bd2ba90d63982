use Rattle.std.proofs.Common.{◌∙◌, Err, ap, sym}
use Rattle.std.specs.Prelude.{option_map}
use Rattle.clap.specs.Words.{first_of}
use Rattle.lto_words.specs.Given.{rows_in}
use Rattle.lto_words.specs.Values.{IsName}
use Rattle.lto_words.specs.declared.fault.WordsError.TheVariants.{Usage}
use Rattle.lto_words.proofs.Reading.{none_given, text_given}
use Rattle.lto_words.proofs.given.file_given.Goals as goal

pub returns-in-Some : goal.returns-in-Some
returns-in-Some c = text_given (λ _. ⊥) IsName (first_of c.args.name.now (rows_in c.args.matches.now)) _ c.file_name.result (ap (option_map (λ s. s.now)) (sym c.in-Some.is) ∙ c.given.ensures) c.file_name.ensures

pub returns-in-None : goal.returns-in-None
returns-in-None c = none_given (λ _. ⊥) IsName (first_of c.args.name.now (rows_in c.args.matches.now)) (Err Usage) (ap (option_map (λ s. s.now)) (sym c.in-None.is) ∙ c.given.ensures) (λ x h. h)
