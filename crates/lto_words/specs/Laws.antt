-- What holds of the definitions.
use Rattle.std.specs.Prelude.{◌≡◌, List}
use Rattle.clap.specs.Words.{Text}
use Rattle.lto_words.specs.Commands.{IsCommand}
use Rattle.lto_words.specs.declared.request.Command.{Command}

-- words are one command at most
abbrev pub OneCommand : Type 0
OneCommand = (words : List Text) (c d : Command) → IsCommand words c → IsCommand words d → c ≡ d
