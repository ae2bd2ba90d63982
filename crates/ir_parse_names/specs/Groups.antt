-- The attribute groups of a module, and what they say of a definition that names them (LangRef, "Attribute Groups").
use Rattle.std.specs.Prelude.{ℕ, Bool, ◌||◌, if◌then◌else◌, List, [], ◌∷◌, ◌++◌, drop}
use Rattle.std.specs.List.{list_any}
use Rattle.ir_lex.specs.Tok.{Tok}
use Rattle.ir_parse_parts.specs.declared.raw.FunctionHeader.{FunctionHeader}
use Rattle.ir_parse_parts.specs.declared.raw.Item.{Item}
use Rattle.ir_parse_parts.specs.declared.raw.Item.TheVariants as item
use Rattle.ir_parse_names.specs.declared.groups.Groups.{Groups}
use Rattle.ir_parse_names.specs.Globals.{has_name}
use Rattle.ir_parse_names.specs.Symbols.{trimmed}

-- the number of a group as its decimal digits: `#07` is `#7`
abbrev pub group_key : Tok → List ℕ
group_key name = trimmed (drop 1 name.text)

-- the groups that say `noinline`, and those that say `optnone`, each once
abbrev pub no_groups : Groups
no_groups = record { noinline = []; optnone = [] }

abbrev pub once : List (List ℕ) → List ℕ → List (List ℕ)
once names name = if has_name names name then names else names ++ name ∷ []

abbrev pub said : Bool → List (List ℕ) → List ℕ → List (List ℕ)
said says names name = if says then once names name else names

-- one more line of a group, which adds to what others say of it
abbrev pub with_group : Groups → Item → Groups
with_group groups (item.Attributes group noinline optnone) =
    record { noinline = said noinline groups.noinline (group_key group); optnone = said optnone groups.optnone (group_key group) }
with_group groups _ = groups

abbrev pub with_groups : Groups → List Item → Groups
with_groups groups [] = groups
with_groups groups (i ∷ is) = with_groups (with_group groups i) is

abbrev pub groups_of : List Item → Groups
groups_of items = with_groups no_groups items

-- one of the groups that are named is among these; one that isn't defined says nothing
abbrev pub any_of : List (List ℕ) → List Tok → Bool
any_of names named = list_any (λ t. has_name names (group_key t)) named

abbrev pub is_noinline : Groups → FunctionHeader → Bool
is_noinline groups head = head.noinline || any_of groups.noinline head.groups

abbrev pub is_optnone : Groups → FunctionHeader → Bool
is_optnone groups head = head.optnone || any_of groups.optnone head.groups
