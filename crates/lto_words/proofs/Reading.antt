-- What was parsed, and how its refusal goes up.
use Rattle.std.proofs.Common.{◌≡◌, ℕ, rules, sym, subst, tests, ap₂, List, [], ◌∷◌, codes, length, map, Result, Ok, Err, Option, Some, None, inl, inr, true, false}
use Rattle.std.specs.Prelude.{◌==◌, option_map}
use Rattle.std.specs.List.{list_any}
use Rattle.std.specs.Box.{box_value}
use Rattle.std.specs.Result.{IsErrAnd}
use Rattle.clap.specs.Words.{HasKind, Kinds, Row, Text, found_of, kind_of, rows_of, subcommand_name_of, subcommand_rows_of}
use Rattle.clap.specs.declared.error.Error.{Error}
use Rattle.clap.specs.declared.error.ErrorKind.TheVariants.{OutOfMemory}
use Rattle.clap.specs.declared.parser.ArgMatches.{ArgMatches}
use Rattle.clap.specs.declared.parser.matches.ArgMatches.TheViews.{out-ArgMatches, out-SubCommand}
use Rattle.lto_words.specs.Commands.{HasLinkOptions, IsBatch, IsCommand, IsGen, IsGiven, IsIndex, IsLink, IsRun, MeansEntered, Parses, Takes, entered, is_stop, without_words}
use Rattle.lto_words.specs.Given.{HasArgs, HasExports, HasFile, HasFiles, HasNumber, HasRoot, OrDefault}
use Rattle.lto_words.specs.Table.{import_limit, jobs, modules, seed, steps}
use Rattle.lto_words.specs.Reads.{Tells}
use Rattle.lto_words.specs.declared.fault.WordsError.{WordsError}
use Rattle.lto_words.specs.declared.fault.WordsError.TheVariants.{Usage, NoMemory}
use Rattle.lto_words.specs.declared.list.Decimal.{Decimal}
use Rattle.lto_words.specs.declared.request.Command.{Command}
use Rattle.lto_words.specs.declared.request.Command.TheVariants.{Batch, Gen, Index, Link, Run}
use Rattle.lto_words.specs.declared.request.LinkOptions.{LinkOptions}

-- a parse that fails by no kind of its own failed for memory
pub no_fault : (kinds : Kinds) (e : Error) → kinds ≡ [] → HasKind kinds e → (kind_of e ≡ OutOfMemory → ⊥) → ⊥
no_fault kinds e none has other = elim (subst (λ (ks : Kinds). HasKind ks e) none has) [
  | inl memory ↦ other memory
  | inr among ↦ absurd among
]

pair_found : {X A B : Type 0} (f : X → A) (g : X → B) (o : Option X) (n : A) (r : B) → Some n ≡ option_map f o
    → Some r ≡ option_map (λ (p : A × B). p.1) (option_map {T = X} {U = A × B} (λ x. (f x, g x)) o) → option_map {T = X} {U = A × B} (λ x. (f x, g x)) o ≡ Some (n, r)
pair_found {X} {A} {B} f g None n r e h = absurd (cc)
pair_found {X} {A} {B} f g (Some x) n r e h =
    let first : f x ≡ n = cc in
    let second : g x ≡ r = cc in
    ap₂ (λ (a : A) (b : B). Some (a, b)) first second

-- the subcommand's name and its matches are what was found
pub found_is : (m : ArgMatches) (n : Text) (r : List Row) → Some n ≡ subcommand_name_of m → Some r ≡ option_map (λ (p : Text × List Row). p.1) (subcommand_rows_of m)
    → subcommand_rows_of m ≡ Some (n, r)
found_is m n r = pair_found (λ b. (out-SubCommand (box_value b)).name.now) (λ b. rows_of (found_of (out-SubCommand (box_value b)).matches)) (out-ArgMatches m).subcommand n r

-- a refusal goes up: what is meant has a part, and there is none
pub refused : {T U : Type 0} (M : T → Type 0) (N : U → Type 0) → ((y : U) → N y → (x : T) × M x) → (r : Result U WordsError) (e : WordsError) → IsErrAnd r (λ y. y ≡ e) → Tells M (Err e) → Tells N r
refused M N part (Ok y) e is h = absurd is
refused M N part (Err Usage) e is h =
    let none : Tells M (Err Usage) = subst (λ (y : WordsError). Tells M (Err y)) (sym is) h in
    λ y meant. let x = part y meant in none x.0 x.1
refused M N part (Err NoMemory) e is h = tt

-- ---- the value of an option

module _ {T : Type 0} (IsDefault : T → Type 0) (Means : Text → T → Type 0) (given : Option Text) where
  pub text_given : (text : Text) (r : Result T WordsError) → Some text ≡ given → Tells (Means text) r → Tells (OrDefault IsDefault Means given) r
  text_given text r is = subst (λ (o : Option Text). Tells (OrDefault IsDefault Means o) r) is

  pub none_given : (r : Result T WordsError) → None ≡ given → Tells IsDefault r → Tells (OrDefault IsDefault Means given) r
  none_given r is = subst (λ (o : Option Text). Tells (OrDefault IsDefault Means o) r) is

-- ---- what a command is made of

pub of_link : (rows : List Row) (c : Command) → IsLink rows c → (options : LinkOptions) × (out : Text) × (files : List Text) × HasLinkOptions rows options × HasFile (codes "o") rows out × HasFiles rows files
of_link rows (Link options out files) h = (options, out, files, h.0, h.1, h.2)
of_link rows c h = absurd h

pub of_batch : (rows : List Row) (c : Command) → IsBatch rows c → (options : LinkOptions) × (list : Text) × HasLinkOptions rows options × HasFile (codes "LISTFILE") rows list
of_batch rows (Batch options list) h = (options, list, h.0, h.1)
of_batch rows c h = absurd h

pub of_index : (rows : List Row) (c : Command) → IsIndex rows c → (exports : List Text) × (limit : ℕ) × (files : List Text) × HasExports rows exports × HasNumber import_limit rows limit × HasFiles rows files
of_index rows (Index exports limit files) h = (exports, limit, files, h.0, h.1, h.2)
of_index rows c h = absurd h

pub of_run : (rows : List Row) (c : Command) → IsRun rows c → (root : Text) × (args : List Decimal) × (limit : ℕ) × (files : List Text) × HasRoot rows root × HasArgs rows args × HasNumber steps rows limit × HasFiles rows files
of_run rows (Run root args limit files) h = (root, args, limit, files, h.0, h.1, h.2, h.3)
of_run rows c h = absurd h

pub of_gen : (rows : List Row) (c : Command) → IsGen rows c → (first count workers : ℕ) × HasNumber seed rows first × HasNumber modules rows count × HasNumber jobs rows workers
of_gen rows (Gen first count workers) h = (first, count, workers, h.0, h.1, h.2)
of_gen rows c h = absurd h

-- words that don't fit are no command
pub not_parsed : (words : List Text) (r : Result Command WordsError) (e : WordsError) → IsErrAnd r (λ y. y ≡ e) → Parses words (Err e) → Tells (IsGiven words) r
not_parsed words (Ok c) e is h = absurd is
not_parsed words (Err Usage) e is h =
    let no : Parses words (Err Usage) = subst (λ (y : WordsError). Parses words (Err y)) (sym is) h in
    λ c given. no given.takes
not_parsed words (Err NoMemory) e is h = tt

-- words that fit are the command that is read from what was found
pub read : (words : List Text) (found : Option (Text × List Row)) (r : Result Command WordsError) → list_any is_stop words ≡ false → Takes words → found ≡ entered words → Tells (MeansEntered found) r → Tells (IsGiven words) r
read words found (Ok c) stops takes is h = record { stops = stops; takes = takes; means = subst (λ (o : Option (Text × List Row)). MeansEntered o c) is h }
read words found (Err Usage) stops takes is h = λ c given. h c (subst (λ (o : Option (Text × List Row)). MeansEntered o c) (sym is) given.means)
read words found (Err NoMemory) stops takes is h = tt

module _ {X : Type 0} (text : X → Text) where
  pub no_words : (words : List X) (c : Command) → (length words == 0) ≡ true → c ≡ without_words → IsCommand (map text words) c
  no_words [] c none is = is
  no_words (word ∷ words) c none is = absurd (search (rules, tests))

  pub some_words : (words : List X) (r : Result Command WordsError) → (length words == 0) ≡ false → Tells (IsGiven (map text words)) r → Tells (IsCommand (map text words)) r
  some_words [] r some h = absurd (cc some)
  some_words (word ∷ words) r some h = h
