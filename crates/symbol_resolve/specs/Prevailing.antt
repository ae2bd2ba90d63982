-- Which definition of a name prevails (LangRef, "Linkage Types").
use Rattle.std.specs.Prelude.{ℕ, List, [], ◌∷◌, Option, Some, None}
use Rattle.symbol_resolve.specs.Mentions.{Mention, modules_with, is_strong, is_weak}

abbrev pub first : List ℕ → Option ℕ
first [] = None
first (k ∷ ks) = Some k

abbrev pub second : List ℕ → Option ℕ
second [] = None
second (k ∷ ks) = first ks

abbrev pub or_else : Option ℕ → Option ℕ → Option ℕ
or_else (Some k) other = Some k
or_else None other = other

-- the module of the external definition; else of the first of the weak and linkonce ones; else none
abbrev pub prevailing : List Mention → List ℕ → Option ℕ
prevailing ms name = or_else (first (modules_with is_strong ms name)) (first (modules_with is_weak ms name))
