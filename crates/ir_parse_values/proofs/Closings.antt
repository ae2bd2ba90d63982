-- What is kept of an initialiser's parts is the flat form of their tree.
use Rattle.std.proofs.Common.{◌≡◌, refl, sym, ap, ◌∙◌, ℕ, zero, suc, ◌+◌, ◌-◌, false, nat_eq, List, [], ◌∷◌, ◌++◌, replicate, Result, Ok, Err, subst, length, drop, get_or, ◌<◌, append_assoc, add-one, arith}
use Rattle.std.proofs.Math.Dec.{eqb-suc-zero}
use Rattle.ir_tree.specs.Initials.{Initial, Levels, levels, around, all_parts, flat_of, tree_of, tree_of-flat_of, IsFlat}
use Rattle.ir_tree.specs.declared.init_node.InitHead.{InitHead}
use Rattle.ir_tree.specs.declared.init_node.InitHead.TheVariants.{Plain, Zeros, Bytes, Array, Struct}
use Rattle.ir_tree.specs.declared.init_node.InitPart.{InitPart}
use Rattle.ir_tree.specs.declared.init_node.InitPart.TheVariants.{Typed, End}
use Rattle.ir_parse_names.specs.declared.fault.Fault.{Fault}
use Rattle.ir_parse_names.specs.Resolving.{◌>>=◌, each}
use Rattle.ir_parse_names.proofs.Each.{here}
use Rattle.ir_parse_values.specs.declared.collected.Collected.{Collected}
use Rattle.ir_parse_values.specs.Closing.{begun, depth_behind, closed, pushed, finished, tree_in}

-- ---- a part at a time

none_open : (ps : List InitPart) → closed zero ps ≡ []
none_open [] = refl
none_open (p ∷ ps) = refl

-- a part is pushed before the others
pub pushed_more : (c : Collected) (p : InitPart) (ps : List InitPart) → finished (pushed c p) ps ≡ finished c (p ∷ ps)
pushed_more c p ps = at c.parts c.depth
  where
    at : (kept : List InitPart) (n : ℕ) → finished (pushed (record { parts = kept; depth = n }) p) ps ≡ finished (record { parts = kept; depth = n }) (p ∷ ps)
    at kept zero = ap (λ qs. kept ++ qs) (none_open ps)
    at kept (suc n) =
        let some : nat_eq (suc n) 0 ≡ false = eqb-suc-zero n in rw some (append_assoc kept (p ∷ []) (closed (depth_behind (suc n) p) ps))

-- ---- all parts

-- the flat list of the levels that are open
abbrev listed : ℕ → Levels → List InitPart
listed zero l = []
listed (suc n) l = all_parts l.0 (End ∷ listed n (around l.1))

listed_none : (n : ℕ) → listed n (levels []) ≡ replicate n End
listed_none zero = refl
listed_none (suc n) = ap (λ ps. End ∷ ps) (listed_none n)

listed_all : (n : ℕ) (ps : List InitPart) → listed n (levels ps) ≡ closed n ps
listed_all n [] = listed_none n
listed_all zero (p ∷ ps) = refl
listed_all (suc n) (Typed f (Plain operand) ∷ ps) = ap (λ qs. Typed f (Plain operand) ∷ qs) (listed_all (suc n) ps)
listed_all (suc n) (Typed f Zeros ∷ ps) = ap (λ qs. Typed f Zeros ∷ qs) (listed_all (suc n) ps)
listed_all (suc n) (Typed f (Bytes text) ∷ ps) = ap (λ qs. Typed f (Bytes text) ∷ qs) (listed_all (suc n) ps)
listed_all (suc n) (Typed f Array ∷ ps) =
    ap (λ qs. Typed f Array ∷ qs) (listed_all (suc (suc n)) ps ∙ ap (λ k. closed k ps) (sym (add-one (suc n))))
listed_all (suc n) (Typed f (Struct packed) ∷ ps) =
    ap (λ qs. Typed f (Struct packed) ∷ qs) (listed_all (suc (suc n)) ps ∙ ap (λ k. closed k ps) (sym (add-one (suc n))))
listed_all (suc n) (End ∷ ps) =
    let less : n ≡ suc n - 1 = omega arith in ap (λ qs. End ∷ qs) (listed_all n ps ∙ ap (λ k. closed k ps) less)

-- the flat form of the tree of some parts
flat_closed : (root : InitHead) (ps : List InitPart) → flat_of (tree_of (root, ps)) ≡ (root, closed (begun 0 root) ps)
flat_closed (Plain operand) ps = ap (λ qs. (Plain operand, qs)) (sym (none_open ps))
flat_closed Zeros ps = ap (λ qs. (Zeros, qs)) (sym (none_open ps))
flat_closed (Bytes text) ps = ap (λ qs. (Bytes text, qs)) (sym (none_open ps))
flat_closed Array ps = ap (λ qs. (Array, qs)) (listed_all 1 ps)
flat_closed (Struct packed) ps = ap (λ qs. (Struct packed, qs)) (listed_all 1 ps)

-- the tree of what is kept
tree_closed : (root : InitHead) (ps : List InitPart) → tree_of (root, closed (begun 0 root) ps) ≡ tree_of (root, ps)
tree_closed root ps = ap tree_of (sym (flat_closed root ps)) ∙ tree_of-flat_of (tree_of (root, ps))

-- what is kept is a flat form
closed_flat : (root : InitHead) (ps : List InitPart) → IsFlat root (closed (begun 0 root) ps)
closed_flat root ps = ap flat_of (tree_closed root ps) ∙ flat_closed root ps

-- a flat form is that of one tree
pub same_tree : (v : Initial) (root : InitHead) (ps : List InitPart) → flat_of v ≡ (root, ps) → v ≡ tree_of (root, ps)
same_tree v root ps is = sym (tree_of-flat_of v) ∙ ap tree_of is

-- ---- the loop over the parts

abbrev pub Is : Collected → Result Collected Fault → Type 0
Is c r = r ≡ Ok c

of_ok : (b c : Collected) → Is c (Ok b) → b ≡ c
of_ok b c e = ap (λ (r : Result Collected Fault). elim r as (λ _. Collected) [ Ok x ↦ x | Err x ↦ b ]) e

-- the tree where these parts are left
abbrev pub tree_onto : InitHead → Collected → Result (List InitPart) Fault → Result Initial Fault
tree_onto root c r = r >>= λ more. Ok (tree_of (root, finished c more))

abbrev pub start : InitHead → Collected
start root = record { parts = []; depth = begun 0 root }

started_at : (root : InitHead) (r : Result (List InitPart) Fault) → tree_onto root (start root) r ≡ tree_in root r
started_at root (Ok ps) = ap (λ (v : Initial). Ok v) (tree_closed root ps)
started_at root (Err e) = refl

-- at first all parts are left
pub started : (root : InitHead) (c : Collected) (r : Result (List InitPart) Fault) → Is c (Ok (start root)) → tree_onto root c r ≡ tree_in root r
started root c r is = ap (λ (b : Collected). tree_onto root b r) (sym (of_ok (start root) c is)) ∙ started_at root r

pub started_flat : (root : InitHead) (c : Collected) (ps : List InitPart) → Is c (Ok (start root)) → IsFlat root (finished c ps)
started_flat root c ps is = subst (λ (b : Collected). IsFlat root (finished b ps)) (of_ok (start root) c is) (closed_flat root ps)

regrouped : (root : InitHead) (c : Collected) (y : InitPart) (r : Result (List InitPart) Fault) → tree_onto root c (r >>= λ ys. Ok (y ∷ ys)) ≡ tree_onto root (pushed c y) r
regrouped root c y (Ok ys) = ap (λ (qs : List InitPart). Ok (tree_of (root, qs))) (sym (pushed_more c y ys))
regrouped root c y (Err e) = refl

-- one part more is pushed
pub stepped : {A : Type 0} (root : InitHead) (f : A → Result InitPart Fault) (xs : List A) (k : ℕ) (c d : Collected) (x : A) (y : InitPart) → k < length xs → x ≡ get_or xs k x → f x ≡ Ok y → Is d (Ok (pushed c y))
    → tree_onto root c (each f (drop k xs)) ≡ tree_onto root d (each f (drop (k + 1) xs))
stepped {A} root f xs k c d x y at is made next =
    ap (λ (more : List A). tree_onto root c (each f more)) (here xs k x at is)
    ∙ ap (λ (r : Result InitPart Fault). tree_onto root c (r >>= λ z. each f (drop (k + 1) xs) >>= λ zs. Ok (z ∷ zs))) made
    ∙ regrouped root c y (each f (drop (k + 1) xs))
    ∙ ap (λ (b : Collected). tree_onto root b (each f (drop (k + 1) xs))) (of_ok (pushed c y) d next)

pub stepped_flat : (root : InitHead) (c d : Collected) (y : InitPart) → Is d (Ok (pushed c y)) → ((ps : List InitPart) → IsFlat root (finished c ps)) → (ps : List InitPart) → IsFlat root (finished d ps)
stepped_flat root c d y next h ps =
    subst (λ (b : Collected). IsFlat root (finished b ps)) (of_ok (pushed c y) d next) (subst (λ (qs : List InitPart). IsFlat root qs) (sym (pushed_more c y ps)) (h (y ∷ ps)))
