-- The definitions of several modules, one module further.
use Rattle.std.proofs.Common.{◌≡◌, ◌∙◌, ◌<◌, ◌+◌, ℕ, zero, suc, sym, ap, List, [], ◌∷◌, ◌++◌, length, take, find, get_or, append_assoc, arith}
use Rattle.std.proofs.lemmas.List.{append-nil, take_more}
use Rattle.std.proofs.lemmas.List.Concat.{flat_map-append}
use Rattle.std.specs.Option.{option_to_list}
use Rattle.ir_tree.specs.declared.operand.Symbol.{Symbol}
use Rattle.combined_index.specs.declared.definition.Definition.{Definition}
use Rattle.thin_link.specs.Listed.{Listed, all_first, all_listed, is_of, listed_from}

next_module : (symbols : List Symbol) (k i n : ℕ) (ms : List (List Definition)) → k + i ≡ n → i < length ms
    → listed_from symbols k (take (suc i) ms) ≡ listed_from symbols k (take i ms) ++ all_listed symbols n (get_or ms i [])
next_module symbols k i n [] e h = absurd (omega arith)
next_module symbols k zero n (m ∷ ms) e h =
    let same : k ≡ n = omega arith in
    append-nil (all_listed symbols k m) ∙ ap (λ (j : ℕ). all_listed symbols j m) same
next_module symbols k (suc i) n (m ∷ ms) e h =
    let inside : i < length ms = omega arith in
    let further : suc k + i ≡ n = omega arith in
    ap (λ (z : List Listed). all_listed symbols k m ++ z) (next_module symbols (suc k) i n ms further inside)
    ∙ sym (append_assoc (all_listed symbols k m) (listed_from symbols (suc k) (take i ms)) (all_listed symbols n (get_or ms i [])))

pub one_module : (symbols : List Symbol) (i : ℕ) (ms : List (List Definition)) → i < length ms
    → listed_from symbols 0 (take (i + 1) ms) ≡ listed_from symbols 0 (take i ms) ++ all_listed symbols i (get_or ms i [])
one_module symbols i ms h =
    let next : i + 1 ≡ suc i = omega arith in
    let start : 0 + i ≡ i = omega arith in
    ap (λ (j : ℕ). listed_from symbols 0 (take j ms)) next ∙ next_module symbols 0 i i ms start h

-- one symbol further
pub one_symbol : (es : List Listed) (ns : List ℕ) (i : ℕ) → i < length ns → all_first es (take (i + 1) ns) ≡ all_first es (take i ns) ++ option_to_list (find (is_of (get_or ns i 0)) es)
one_symbol es ns i h =
    ap (all_first es) (take_more ns i 0 h)
    ∙ flat_map-append (λ n. option_to_list (find (is_of n) es)) (take i ns) (get_or ns i 0 ∷ [])
    ∙ ap (λ (z : List Listed). all_first es (take i ns) ++ z) (append-nil (option_to_list (find (is_of (get_or ns i 0)) es)))
