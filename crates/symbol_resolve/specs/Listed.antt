-- What the table of names knows of each.
use Rattle.std.specs.Prelude.{◌≡◌, ℕ, Bool, true, false, List, [], ◌∷◌, map, Option, Some, None, if◌then◌else◌, Result, Ok, Err, option_map}
use Rattle.std.specs.Borrow.{Bor}
use Rattle.std.specs.Cmp.Lexicographic.{slice_cmp}
use Rattle.std.specs.List.{IsDistinct}
use Rattle.std.specs.Map.{lookup, keys_of}
use Rattle.std.specs.Ordering.{nat_cmp}
use Rattle.std.specs.Str.{bytes_eq}
use Rattle.std.specs.declared.cmp.Ordering.{Ordering}
use Rattle.std.specs.declared.cmp.Ordering.TheVariants.{Less, Equal, Greater}
use Rattle.ir_tree.specs.NameOrder.{comes_before}
use Rattle.ir_tree.specs.declared.module.Module.{Module}
use Rattle.symbol_resolve.specs.Clashes.{Clashes, OneTarget}
use Rattle.symbol_resolve.specs.declared.clash.Clash.{Clash}
use Rattle.symbol_resolve.specs.declared.clash.Clash.TheVariants as clash
use Rattle.ir_tree.specs.declared.failure.Failure.{Failure}
use Rattle.ir_tree.specs.declared.failure.Failure.TheVariants as error
use Rattle.symbol_resolve.specs.Mentions.{Mention, modules_with, is_function, is_variable, is_strong, is_weak, names_of}
use Rattle.symbol_resolve.specs.Prevailing.{first, second, or_else}
use Rattle.ir_tree.specs.Once.{once}
use Rattle.symbol_resolve.specs.declared.facts.Facts.{Facts}
use Rattle.symbol_resolve.specs.declared.least.LinkRule.{LinkRule}
use Rattle.symbol_resolve.specs.declared.least.LinkRule.TheVariants as rule
use Rattle.symbol_resolve.specs.declared.mention.SymbolKind.{SymbolKind}
use Rattle.symbol_resolve.specs.declared.mention.SymbolKind.TheVariants as kind
use Rattle.symbol_resolve.specs.declared.mention.Standing.{Standing}
use Rattle.symbol_resolve.specs.declared.mention.Standing.TheVariants as standing

-- ---- one more mention

abbrev pub or_this : Option ℕ → ℕ → Option ℕ
or_this (Some other) k = Some other
or_this None k = Some k

-- the second is there only behind a first
abbrev pub second_or : Option ℕ → Option ℕ → ℕ → Option ℕ
second_or None there k = there
second_or (Some other) there k = or_this there k

abbrev pub with_kind : Facts → ℕ → SymbolKind → Facts
with_kind f k kind.Function = record f { function = or_this f.function k }
with_kind f k kind.Variable = record f { variable = or_this f.variable k }

abbrev pub with_standing : Facts → ℕ → Standing → Facts
with_standing f k standing.Strong = record f { strong = or_this f.strong k; second = second_or f.strong f.second k }
with_standing f k standing.Weak = record f { weak = or_this f.weak k }
with_standing f k standing.Declared = f

abbrev pub noted : Facts → ℕ → SymbolKind → Standing → Facts
noted f k kind standing = with_standing (with_kind f k kind) k standing

abbrev pub prevails : Facts → Option ℕ
prevails f = or_else f.strong f.weak

-- ---- the table

abbrev pub Entries : Type 0
Entries = List (Bor (List ℕ) × Facts)

abbrev pub unknown : Facts
unknown = record { function = None; variable = None; strong = None; second = None; weak = None }

abbrev pub or_unknown : Option Facts → Facts
or_unknown None = unknown
or_unknown (Some f) = f

-- what the table knows of a name
abbrev pub known : Entries → List ℕ → Facts
known es name = or_unknown (lookup (λ key. bytes_eq name key.now) es)

-- what is to be known of a name behind these mentions
abbrev pub facts_of : List Mention → List ℕ → Facts
facts_of ms name = record {
  function = first (modules_with is_function ms name);
  variable = first (modules_with is_variable ms name);
  strong = first (modules_with is_strong ms name);
  second = second (modules_with is_strong ms name);
  weak = first (modules_with is_weak ms name);
}

abbrev pub key_names : Entries → List (List ℕ)
key_names = map (λ e. e.0.now)

abbrev pub same_key : Bor (List ℕ) → Bor (List ℕ) → Bool
same_key x y = bytes_eq x.now y.now

pub record Tabled (ms : List Mention) (es : Entries) : Type 0 where
  pub distinct : IsDistinct same_key (keys_of es)
  pub names : key_names es ≡ once (names_of ms)
  pub facts : (name : List ℕ) → known es name ≡ facts_of ms name

-- ---- the table as a list

abbrev pub Listing : Type 0
Listing = List (List ℕ × Facts)

abbrev pub pairs : Entries → Listing
pairs = map (λ e. (e.0.now, e.1))

-- each name with the module whose definition prevails
abbrev pub settled : Entries → List (List ℕ × Option ℕ)
settled = map (λ e. (e.0.now, prevails e.1))

-- ---- names that break a rule, with the two modules that do

abbrev pub both : Option ℕ → Option ℕ → Option (ℕ × ℕ)
both (Some a) (Some b) = Some (a, b)
both (Some a) None = None
both None b = None

abbrev pub conflict : LinkRule → Facts → Option (ℕ × ℕ)
conflict rule.OneDefinition f = both f.strong f.second
conflict rule.OneKind f = both f.function f.variable

-- a name and two modules
abbrev pub Conflict : Type 0
Conflict = List ℕ × (ℕ × ℕ)

abbrev pub lesser : Option Conflict → Conflict → Option Conflict
lesser None e = Some e
lesser (Some best) e = if comes_before e.0 best.0 then Some e else Some best

abbrev pub lesser_of : Option Conflict → List ℕ → Option (ℕ × ℕ) → Option Conflict
lesser_of best name None = best
lesser_of best name (Some p) = lesser best (name, p)

-- of the names that break a rule the least, unless a lesser one was there
abbrev pub least_from : LinkRule → Option Conflict → Listing → Option Conflict
least_from rule best [] = best
least_from rule best (e ∷ es) = least_from rule (lesser_of best e.0 (conflict rule e.1)) es

-- what is told of it
abbrev pub told : LinkRule → Conflict → Clash
told rule.OneDefinition e = clash.DuplicateSymbol e.0 e.1.0 e.1.1
told rule.OneKind e = clash.KindClash e.0 e.1.0 e.1.1

abbrev pub ChecksNames : LinkRule → Entries → Result (Unit {0}) (Failure Clash) → Type 0
ChecksNames rule es (Ok done) = least_from rule None (pairs es) ≡ None
ChecksNames rule es (Err (error.Fault c)) = option_map (told rule) (least_from rule None (pairs es)) ≡ Some c
ChecksNames rule es (Err error.NoMemory) = Unit {0}

-- ---- target lines

abbrev pub ChecksTargets : List Module → Result (Unit {0}) (Failure Clash) → Type 0
ChecksTargets ms (Ok done) = OneTarget ms
ChecksTargets ms (Err (error.Fault c)) = Clashes ms c
ChecksTargets ms (Err error.NoMemory) = Unit {0}
