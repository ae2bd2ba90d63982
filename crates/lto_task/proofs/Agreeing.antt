-- What the text of a task says, and that it says one thing.
use Rattle.std.proofs.Common.{◌≡◌, ◌∙◌, ℕ, ◌<◌, ◌^◌, List, [], ◌∷◌, ◌++◌, length, append_assoc, codes, arith, sym, ap}
use Rattle.std.proofs.lemmas.Fmt.{decimal_injective}
use Rattle.std.proofs.lemmas.List.{append_cancel_left}
use Rattle.std.specs.Fmt.{decimal}
use Rattle.std.specs.List.{All, flat_map}
use Rattle.ir_tree.specs.Names.{AllBytes}
use Rattle.ir_tree.specs.declared.module.GlobalValue.{GlobalValue}
use Rattle.ir_print.specs.Modules.{module_text}
use Rattle.lto_task.specs.Tasks.{TaskView, TasksAgree, counted_bytes, counted_names, module_of, number_line}
use Rattle.lto_task.specs.Units.{name_line}
use Rattle.lto_task.proofs.Headings.{names_one, texts_one}
use Rattle.lto_task.proofs.Numbers.{decimal_no_line_feed}
use Rattle.lto_task.proofs.Splitting.{first_split_one}

-- ---- what is counted is one

line_is : (word : List ℕ) (n : ℕ) (more : List ℕ) → number_line word n ++ more ≡ word ++ (32 ∷ (decimal n ++ (10 ∷ more)))
line_is word n more =
    append_assoc word (32 ∷ (decimal n ++ 10 ∷ [])) more
    ∙ ap (λ (t : List ℕ). word ++ (32 ∷ t)) (append_assoc (decimal n) (10 ∷ []) more)

number_line_one : (word : List ℕ) (m n : ℕ) (xs ys : List ℕ) → m < 2 ^ 64 → n < 2 ^ 64 → number_line word m ++ xs ≡ number_line word n ++ ys → (m ≡ n) × (xs ≡ ys)
number_line_one word m n xs ys small least same =
    let behind = append_cancel_left word (32 ∷ (decimal m ++ (10 ∷ xs))) (32 ∷ (decimal n ++ (10 ∷ ys))) (sym (line_is word m xs) ∙ same ∙ line_is word n ys) in
    let parts =
    first_split_one 10 (decimal m) xs (decimal n) ys (decimal_no_line_feed m small) (decimal_no_line_feed n least)
    (append_cancel_left (32 ∷ []) (decimal m ++ (10 ∷ xs)) (decimal n ++ (10 ∷ ys)) behind) in
    (decimal_injective m n small least parts.0, parts.1)

counted_names_one : (word : List ℕ) (ms ns : List (List ℕ)) (xs ys : List ℕ) → All AllBytes ms → All AllBytes ns → length ms < 2 ^ 64 → length ns < 2 ^ 64 → counted_names word ms ++ xs ≡ counted_names word ns ++ ys
    → (ms ≡ ns) × (xs ≡ ys)
counted_names_one word ms ns xs ys all also small least same =
    let parts =
    number_line_one word (length ms) (length ns) (flat_map name_line ms ++ xs) (flat_map name_line ns ++ ys) small least
    (sym (append_assoc (number_line word (length ms)) (flat_map name_line ms) xs) ∙ same ∙ append_assoc (number_line word (length ns)) (flat_map name_line ns) ys) in
    names_one ms xs ns ys all also parts.0 parts.1

counted_bytes_one : (word ms ns xs ys : List ℕ) → length ms < 2 ^ 64 → length ns < 2 ^ 64 → counted_bytes word ms ++ xs ≡ counted_bytes word ns ++ ys → (ms ≡ ns) × (xs ≡ ys)
counted_bytes_one word ms ns xs ys small least same =
    let parts =
    number_line_one word (length ms) (length ns) (ms ++ xs) (ns ++ ys) small least
    (sym (append_assoc (number_line word (length ms)) ms xs) ∙ same ∙ append_assoc (number_line word (length ns)) ns ys) in
    texts_one ms xs ns ys parts.0 parts.1

-- ---- tasks

abbrev text : List GlobalValue → List ℕ
text gs = module_text (module_of gs)

abbrev modules : TaskView → List ℕ
modules t = counted_bytes (codes "own") (text t.own) ++ counted_bytes (codes "imported") (text t.imported)

abbrev behind_exports : TaskView → List ℕ
behind_exports t = counted_names (codes "promoted") t.promoted ++ modules t

abbrev behind_limit : TaskView → List ℕ
behind_limit t = counted_names (codes "exported") t.exports ++ behind_exports t

abbrev behind_version : TaskView → List ℕ
behind_version t = number_line (codes "inline") t.inline_limit ++ behind_limit t

pub tasks_agree : TasksAgree
tasks_agree t u v w same =
    let version = append_cancel_left (number_line (codes "thinlto task") 1) (behind_version t) (behind_version u) same in
    let limit = number_line_one (codes "inline") t.inline_limit u.inline_limit (behind_limit t) (behind_limit u) (omega (arith, v.limit)) (omega (arith, w.limit)) version in
    let exports = counted_names_one (codes "exported") t.exports u.exports (behind_exports t) (behind_exports u) v.exports w.exports v.exported_count w.exported_count limit.1 in
    let promoted = counted_names_one (codes "promoted") t.promoted u.promoted (modules t) (modules u) v.promoted w.promoted v.promoted_count w.promoted_count exports.1 in
    let own =
    counted_bytes_one (codes "own") (text t.own) (text u.own) (counted_bytes (codes "imported") (text t.imported)) (counted_bytes (codes "imported") (text u.imported)) v.own_bytes w.own_bytes promoted.1 in
    let imported = counted_bytes_one (codes "imported") (text t.imported) (text u.imported) [] [] v.imported_bytes w.imported_bytes (ap (λ (l : List ℕ). l ++ []) own.1) in
    record { inline_limit = limit.0; exports = exports.0; promoted = promoted.0; own = own.0; imported = imported.0 }
