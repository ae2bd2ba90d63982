-- Whether a type name is defined, as it is looked up.
use Rattle.std.proofs.Common.{◌≡◌, ℕ, suc, Option, Some, None, Result, Ok, is_some, option_map, refl, sym, ap, ◌∙◌}
use Rattle.ir_lex.specs.Tok.{Tok}
use Rattle.ir_parse_parts.specs.Shapes.{Written, named}
use Rattle.ir_parse_names.specs.declared.fault.Fault.{Fault}
use Rattle.ir_parse_names.specs.Keys.{Key}
use Rattle.ir_parse_names.specs.Resolving.{◌>>=◌}
use Rattle.ir_parse_names.specs.Types.{Types, chased, entry_in, entry_of, head_from, or_unknown, shape_at}

mapped_some : {A B : Type 0} (f : A → B) (o : Option A) → is_some (option_map f o) ≡ is_some o
mapped_some f None = refl
mapped_some f (Some x) = refl

pub is_known : (types : Types) (place : Option ℕ) (wanted key : Key) → option_map (λ p. shape_at types p) place ≡ entry_of types wanted → wanted ≡ key → is_some (entry_of types key) ≡ is_some place
is_known types place wanted key e same = ap (λ (k : Key). is_some (entry_of types k)) (sym same) ∙ ap is_some (sym e) ∙ mapped_some (λ p. shape_at types p) place

-- a chain goes on by one name
pub goes_along : (left k : ℕ) (types : Types) (line : ℕ) (name : Tok) (shape next : Option Written) (s : Written) → left ≡ suc k → Some s ≡ shape → s ≡ named name → entry_in types name ≡ Ok next → chased left types line shape ≡ chased k types name.line next
goes_along left k types line name shape next s one here is found =
    ap (chased left types line) (sym here) ∙ ap (head_from left types) is ∙ ap (λ (n : ℕ). head_from n types (named name)) one
    ∙ ap (λ (r : Result (Option Written) Fault). (r >>= λ entry. or_unknown name.line entry) >>= λ x. head_from k types x) found
