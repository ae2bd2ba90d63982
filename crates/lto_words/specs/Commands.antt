-- When words are a command, and which.
use Rattle.std.specs.Prelude.{◌≡◌, ◌||◌, ℕ, Bool, true, false, List, [], ◌∷◌, Option, Some, None, MatchOption, if◌then◌else◌, take, codes, Result, Ok, Err}
use Rattle.std.specs.List.{list_any}
use Rattle.std.specs.Str.{bytes_eq}
use Rattle.clap.specs.Words.{Row, Text, fault_of, subcommand_of, subcommand_rows_of}
use Rattle.clap.specs.declared.parser.ArgMatches.{ArgMatches}
use Rattle.lto_words.specs.declared.fault.WordsError.{WordsError}
use Rattle.lto_words.specs.declared.fault.WordsError.TheVariants.{Usage, NoMemory}
use Rattle.lto_words.specs.Table.{import_limit, inline_limit, jobs, modules, seed, steps, thinlto}
use Rattle.lto_words.specs.Given.{HasArgs, HasCache, HasExports, HasFile, HasFiles, HasNumber, HasRoot}
use Rattle.lto_words.specs.declared.request.Command.{Command}
use Rattle.lto_words.specs.declared.request.Command.TheVariants.{Link, Batch, Index, Run, Gen}
use Rattle.lto_words.specs.declared.request.CommandKind.{CommandKind}
use Rattle.lto_words.specs.declared.request.CommandKind.TheVariants as kind
use Rattle.lto_words.specs.declared.request.LinkOptions.{LinkOptions}

-- ---- what the words of each command mean

-- the options that `link` and `batch` have
pub record HasLinkOptions (rows : List Row) (o : LinkOptions) : Type 0 where
  pub jobs : HasNumber jobs rows o.jobs
  pub cache : HasCache rows o.cache
  pub exports : HasExports rows o.exports
  pub import_limit : HasNumber import_limit rows o.import_limit
  pub inline_limit : HasNumber inline_limit rows o.inline_limit

abbrev pub IsLink : List Row → Command → Type 0
IsLink rows (Link options out files) = HasLinkOptions rows options × HasFile (codes "o") rows out × HasFiles rows files
IsLink rows _ = ⊥

abbrev pub IsBatch : List Row → Command → Type 0
IsBatch rows (Batch options list) = HasLinkOptions rows options × HasFile (codes "LISTFILE") rows list
IsBatch rows _ = ⊥

abbrev pub IsIndex : List Row → Command → Type 0
IsIndex rows (Index exports limit files) = HasExports rows exports × HasNumber import_limit rows limit × HasFiles rows files
IsIndex rows _ = ⊥

abbrev pub IsRun : List Row → Command → Type 0
IsRun rows (Run root args limit files) = HasRoot rows root × HasArgs rows args × HasNumber steps rows limit × HasFiles rows files
IsRun rows _ = ⊥

abbrev pub IsGen : List Row → Command → Type 0
IsGen rows (Gen first count workers) = HasNumber seed rows first × HasNumber modules rows count × HasNumber jobs rows workers
IsGen rows _ = ⊥

abbrev pub Means : CommandKind → List Row → Command → Type 0
Means kind.Link = IsLink
Means kind.Batch = IsBatch
Means kind.Index = IsIndex
Means kind.Run = IsRun
Means kind.Gen = IsGen

-- the command of a name
abbrev pub kind_named : Text → Option CommandKind
kind_named name =
    if bytes_eq name (codes "link") then Some kind.Link
    else if bytes_eq name (codes "batch") then Some kind.Batch
    else if bytes_eq name (codes "index") then Some kind.Index
    else if bytes_eq name (codes "run") then Some kind.Run
    else if bytes_eq name (codes "gen") then Some kind.Gen
    else None

-- ---- words

-- `--`, or what begins `-o=`
abbrev pub is_stop : Text → Bool
is_stop word = bytes_eq word (codes "--") || bytes_eq (take 3 word) (codes "-o=")

-- the words fit the table: they name what it has, options have one value each and are given at most once, and what has
-- to be given is there
unfoldable pub Takes : List Text → Type 0
Takes words = fault_of thinlto words ≡ []

-- the command's name, and what was found for it
unfoldable pub entered : List Text → Option (Text × List Row)
entered words = subcommand_of thinlto words

-- the matches are what was found, and Usage comes only where the words don't fit
abbrev pub Parses : List Text → Result ArgMatches WordsError → Type 0
Parses words (Ok m) = Takes words × (subcommand_rows_of m ≡ entered words)
Parses words (Err Usage) = Takes words → ⊥
Parses words (Err NoMemory) = Unit {0}

-- what is found, read as the command of its name
abbrev pub MeansEntered : Option (Text × List Row) → Command → Type 0
MeansEntered found c = MatchOption found ⊥ (λ p. MatchOption (kind_named p.0) ⊥ (λ k. Means k p.1 c))

pub record IsGiven (words : List Text) (c : Command) : Type 0 where
  pub stops : list_any is_stop words ≡ false
  pub takes : Takes words
  pub means : MeansEntered (entered words) c

-- `link -o - -`
abbrev pub without_words : Command
without_words = Link (record {
  jobs = 1;
  cache = None;
  exports = codes "main" ∷ [];
  import_limit = 100;
  inline_limit = 40;
}) (codes "-") (codes "-" ∷ [])

-- the words are the command c
abbrev pub IsCommand : List Text → Command → Type 0
IsCommand [] c = c ≡ without_words
IsCommand (word ∷ words) c = IsGiven (word ∷ words) c
