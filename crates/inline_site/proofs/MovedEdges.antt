-- Edges and phi entries of a function that stand in another one, under other numbers of blocks.
use Rattle.std.proofs.Common.{◌≡◌, ℕ, suc, ◌+◌, nat_eq, ◌⊎◌, inl, inr, Bool, true, false, cond, List, [], ◌∷◌, Option, Some, None, map, get_or, refl, sym, ◌∙◌, ap, subst, if◌then◌else◌}
use Rattle.std.specs.Prelude.{All, count_by, option_map, slice_get}
use Rattle.std.proofs.lemmas.Bool.{eqb-true, eqb-false, eq-eqb, ne_eqb}
use Rattle.std.proofs.lemmas.List.Elements.{All-head, All-map, All-tail}
use Rattle.std.proofs.lemmas.List.Recursion.{is_count_by}
use Rattle.std.proofs.lemmas.Option.{get_or_from_slice_get, slice_get-map, slice_get_within}
use Rattle.ir_tree.specs.Flow.{edges, successors}
use Rattle.ir_tree.specs.Formed.{Distinct, IsBlock, numbers}
use Rattle.ir_tree.specs.Rules.{OnEdges, place}
use Rattle.ir_tree.specs.declared.block.Block.{Block}
use Rattle.ir_tree.specs.declared.function.Function.{Function}
use Rattle.ir_tree.specs.declared.instr.Incoming.{Incoming}
use Rattle.ir_tree.specs.declared.operand.Operand.{Operand}
use Rattle.ir_tree.specs.Edited.{incoming_edited}
use Rattle.ir_meaning.specs.Counted.{sources, times}
use Rattle.ir_meaning.proofs.Counting.{edges_from, number_at, numbers_in, out_to, place_is, times_is}
use Rattle.ir_meaning.proofs.Entries.{by_number, entries_of}
use Rattle.inline_site.proofs.Elements.{Changed, In, changed}
use Rattle.inline_site.proofs.Numbered.{holds_in, in_holds}

-- the block of a number
abbrev pub BlockOf : Function → ℕ → Type 0
BlockOf h n = (i : ℕ) × (b : Block) × (slice_get h.blocks i ≡ Some b) × (b.number ≡ n)

pub block_of : (h : Function) (n : ℕ) → IsBlock h n → BlockOf h n
block_of h n there = by (in_holds n (numbers h) there)
  where
    from : (i : ℕ) (o : Option Block) → slice_get h.blocks i ≡ o → slice_get (numbers h) i ≡ Some n → BlockOf h n
    from i None e at = let none : None ≡ Some n = sym (slice_get-map (λ (b : Block). b.number) h.blocks i ∙ ap (option_map (λ (b : Block). b.number)) e) ∙ at in absurd (cc none)
    from i (Some b) e at = let same : Some b.number ≡ Some n = sym (number_at h.blocks i b e) ∙ at in (i, b, e, cc same)

    by : In n (numbers h) → BlockOf h n
    by (i, at) = from i (slice_get h.blocks i) refl at

-- ---- how often an entry names a block

-- none of them does
pub never : (n : ℕ) (es : List Incoming) → All (λ e. e.from ≡ n → ⊥) es → times n (sources es) ≡ 0
never n [] h = refl
never n (e ∷ es) h =
    ap (λ (b : Bool). if b then suc (times n (sources es)) else times n (sources es)) (ne_eqb e.from n (All-head (λ e. e.from ≡ n → ⊥) e es h))
    ∙ never n es (All-tail (λ e. e.from ≡ n → ⊥) e es h)

-- each of the list, under other numbers of which no two are one among the blocks
pub as_often : (h : Function) (block : ℕ → ℕ) (op : Operand → Operand) (n : ℕ) → ((x : ℕ) → IsBlock h x → block x ≡ block n → x ≡ n) → (es : List Incoming) → All (λ e. IsBlock h e.from) es
    → times (block n) (sources (map (incoming_edited block op) es)) ≡ times n (sources es)
as_often h block op n apart [] there = refl
as_often h block op n apart (e ∷ es) there = by (nat_eq e.from n) refl (as_often h block op n apart es (All-tail (λ e. IsBlock h e.from) e es there))
  where
    by : (b : Bool) → nat_eq e.from n ≡ b → times (block n) (sources (map (incoming_edited block op) es)) ≡ times n (sources es)
        → (if nat_eq (block e.from) (block n) then suc (times (block n) (sources (map (incoming_edited block op) es))) else times (block n) (sources (map (incoming_edited block op) es)))
        ≡ (if b then suc (times n (sources es)) else times n (sources es))
    by true is more =
        ap (λ (b : Bool). if b then suc (times (block n) (sources (map (incoming_edited block op) es))) else times (block n) (sources (map (incoming_edited block op) es))) (eq-eqb (block e.from) (block n) (ap block (eqb-true e.from n is)))
        ∙ ap suc more
    by false is more =
        ap (λ (b : Bool). if b then suc (times (block n) (sources (map (incoming_edited block op) es))) else times (block n) (sources (map (incoming_edited block op) es)))
        (ne_eqb (block e.from) (block n) (λ same. eqb-false e.from n is (apart e.from (All-head (λ e. IsBlock h e.from) e es there) same)))
        ∙ more

-- ---- entries for edges, by numbers

module _ (g : Function) (differ : Distinct (numbers_in g.blocks)) where
  abbrev count : ℕ → List Incoming → ℕ
  count q [] = 0
  count q (e ∷ es) = cond (nat_eq (place g.blocks e.from) q) (1 + count q es) (count q es)

  -- no entry is of a place at which no block stands
  nowhere : (q : ℕ) → slice_get g.blocks q ≡ None → (es : List Incoming) → All (λ e. IsBlock g e.from) es → count q es ≡ 0
  nowhere q none [] there = refl
  nowhere q none (e ∷ es) there =
      ap (λ (b : Bool). cond b (1 + count q es) (count q es)) (ne_eqb (place g.blocks e.from) q (λ same. away (block_of g e.from (All-head (λ e. IsBlock g e.from) e es there)) same))
      ∙ nowhere q none es (All-tail (λ e. IsBlock g e.from) e es there)
    where
      away : BlockOf g e.from → place g.blocks e.from ≡ q → ⊥
      away (i, b, at, is) same =
          let here : i ≡ q = sym (place_is g.blocks differ i b at) ∙ ap (place g.blocks) is ∙ same in
          let clash : Some b ≡ None = sym at ∙ ap (slice_get g.blocks) here ∙ none in
          cc clash

  -- as many entries name each block as edges lead from it
  pub on_edges_by : (j : ℕ) (b : Block) → slice_get g.blocks j ≡ Some b → (es : List Incoming) → All (λ e. IsBlock g e.from) es
      → ((q : ℕ) (c : Block) → slice_get g.blocks q ≡ Some c → times c.number (sources es) ≡ times b.number (successors c.end))
      → ((k l : ℕ) (e d : Incoming) → slice_get es k ≡ Some e → slice_get es l ≡ Some d → e.from ≡ d.from → e.value ≡ d.value) → OnEdges g j es
  on_edges_by j b at es there many same = record { each = λ q. each q (slice_get g.blocks q) refl; equal = same }
    where
      each : (q : ℕ) (o : Option Block) → slice_get g.blocks q ≡ o → count_by (λ e. nat_eq (place g.blocks e.from) q) es ≡ count_by (λ p. nat_eq p q) (edges g j)
      each q None e =
          sym (is_count_by (count q) (λ e. nat_eq (place g.blocks e.from) q) refl (λ x xs. refl) es) ∙ nowhere q e es there
          ∙ sym (ap (out_to b.number) e) ∙ sym (edges_from g j b at q) ∙ times_is q (edges g j)
      each q (Some c) e =
          by_number g differ q c e es ∙ many q c e ∙ sym (ap (out_to b.number) e) ∙ sym (edges_from g j b at q) ∙ times_is q (edges g j)

-- ---- entries that are moved

-- a block of the new function is one that stood in the old, under its new number, and leads to one as often as it did, or no entry names it and it doesn't lead there
abbrev pub Leads : Function → (ℕ → ℕ) → ℕ → ℕ → Block → Type 0
Leads f block from to c =
    ((i : ℕ) × (a : Block) × (slice_get f.blocks i ≡ Some a) × (c.number ≡ block a.number) × (times to (successors c.end) ≡ times from (successors a.end)))
    ⊎ (((x : ℕ) → IsBlock f x → block x ≡ c.number → ⊥) × (times to (successors c.end) ≡ 0))

pub on_edges_moved : (f g : Function) → Distinct (numbers_in f.blocks) → Distinct (numbers_in g.blocks) → (block : ℕ → ℕ) (op : Operand → Operand)
    → ((x y : ℕ) → IsBlock f x → IsBlock f y → block x ≡ block y → x ≡ y) → ((x : ℕ) → IsBlock f x → IsBlock g (block x))
    → (i j : ℕ) (a b : Block) → slice_get f.blocks i ≡ Some a → slice_get g.blocks j ≡ Some b
    → ((q : ℕ) (c : Block) → slice_get g.blocks q ≡ Some c → Leads f block a.number b.number c)
    → (es : List Incoming) → All (λ e. IsBlock f e.from) es → OnEdges f i es → OnEdges g j (map (incoming_edited block op) es)
on_edges_moved f g differ differ' block op apart there i j a b at_i at_j leads es sources' h =
    on_edges_by g differ' j b at_j (map (incoming_edited block op) es) (All-map (λ e. IsBlock g e.from) (incoming_edited block op) es (λ k d lt. there (get_or es k d).from (sources' k d lt))) (λ q c at. many c (leads q c at))
    (λ k l e d at_k at_l same. equal k l e d same (changed (incoming_edited block op) es k e at_k) (changed (incoming_edited block op) es l d at_l))
  where
    number_there : (r : ℕ) (c : Block) → slice_get f.blocks r ≡ Some c → IsBlock f c.number
    number_there r c at = holds_in c.number (numbers f) (r, number_at f.blocks r c at)

    many : (c : Block) → Leads f block a.number b.number c → times c.number (sources (map (incoming_edited block op) es)) ≡ times b.number (successors c.end)
    many c (inl (r, o, at, number, same)) =
        ap (λ (n : ℕ). times n (sources (map (incoming_edited block op) es))) number
        ∙ as_often f block op o.number (λ x x_there e. apart x o.number x_there (number_there r o at) e) es sources'
        ∙ entries_of f differ i a at_i r o at es h
        ∙ sym same
    many c (inr (fresh, none)) =
        never c.number (map (incoming_edited block op) es) (All-map (λ e. e.from ≡ c.number → ⊥) (incoming_edited block op) es (λ k d lt. fresh (get_or es k d).from (sources' k d lt)))
        ∙ sym none

    of_both : (e d x y : Incoming) → incoming_edited block op x ≡ e → incoming_edited block op y ≡ d → e.from ≡ d.from → IsBlock f x.from → IsBlock f y.from → (x.from ≡ y.from → x.value ≡ y.value) → e.value ≡ d.value
    of_both e d x y x_is y_is same x_there y_there h =
        ap (λ (w : Incoming). w.value) (sym x_is)
        ∙ ap op (h (apart x.from y.from x_there y_there (ap (λ (w : Incoming). w.from) x_is ∙ same ∙ ap (λ (w : Incoming). w.from) (sym y_is))))
        ∙ ap (λ (w : Incoming). w.value) y_is

    at_place : (k : ℕ) (x : Incoming) → slice_get es k ≡ Some x → IsBlock f x.from
    at_place k x at = subst (λ (w : Incoming). IsBlock f w.from) (get_or_from_slice_get es k x x at) (sources' k x (slice_get_within es k x at))

    equal : (k l : ℕ) (e d : Incoming) → e.from ≡ d.from → Changed (incoming_edited block op) es k e → Changed (incoming_edited block op) es l d → e.value ≡ d.value
    equal k l e d same (x, at_x, x_is) (y, at_y, y_is) = of_both e d x y x_is y_is same (at_place k x at_x) (at_place l y at_y) (h.equal k l x y at_x at_y)
