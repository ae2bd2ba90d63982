-- A sound function stays sound as facts are put in the place of locals, at whatever points.
use Rattle.std.proofs.Common.{◌≡◌, ℕ, suc, nat_eq, ◌==◌, Bool, true, false, List, [], ◌∷◌, ◌++◌, Option, map, refl, sym, ◌∙◌, ap, subst, arith, inl, inr, if◌then◌else◌}
use Rattle.std.specs.Prelude.{All}
use Rattle.std.specs.List.{count_by}
use Rattle.std.proofs.lemmas.Bool.{eqb-true}
use Rattle.std.proofs.lemmas.List.Elements.{All-cons, All-head, All-tail}
use Rattle.ir_tree.specs.Flow.{edges, holds, locals, successors}
use Rattle.ir_tree.specs.Formed.{ArgumentFormed, Distinct, IsBlock, ItemFormed, KindFormed, OperandFormed, numbers}
use Rattle.ir_tree.specs.Items.{Item, phi_item, line_item, end_item, block_items, entries, items, items_from, lines_from, operands, taken_as, typed}
use Rattle.ir_tree.specs.Rules.{CastsRight, DiffersRight, EndTypes, EntriesThere, Follows, HasEdges, HasType, Keeps, KindTypes, LeavesEntry, LineOnEdges, OnEdges, ReadsThere, Sound, StandsRight, Typing, place, type_of, typing, typings}
use Rattle.ir_tree.specs.declared.block.Block.{Block}
use Rattle.ir_tree.specs.declared.block.Terminator.{Terminator}
use Rattle.ir_tree.specs.declared.block.Terminator.TheVariants.{Branch, Jump, Return, Switch, Unreachable}
use Rattle.ir_tree.specs.declared.function.Function.{Function}
use Rattle.ir_tree.specs.declared.instr.Incoming.{Incoming}
use Rattle.ir_tree.specs.declared.instr.Instr.{Instr}
use Rattle.ir_tree.specs.declared.instr.Instr.TheVariants as kind
use Rattle.ir_tree.specs.declared.instr.Line.{Line}
use Rattle.ir_tree.specs.declared.instr.Phi.{Phi}
use Rattle.ir_tree.specs.declared.operand.Operand.{Operand}
use Rattle.ir_tree.specs.declared.operand.Operand.TheVariants.{Local, Null, Number as Constant, Poison as PoisonOf, Symbol as Named}
use Rattle.ir_tree.specs.declared.operand.Reg.{Reg}
use Rattle.ir_tree.specs.declared.rule.Rule.{Rule}
use Rattle.ir_tree.specs.declared.rule.Rule.TheVariants.{TypeMismatch, NotAvailable, PhiEdges, PhiPlace, EntryBranch, Index, Cast, CaseTwice}
use Rattle.ir_meaning.specs.Facts.{Facts, behind_local, blocks_replaced, edges_replaced, function_replaced, lines_replaced, phis_replaced, replaced, replaced_local}
use Rattle.ir_tree.specs.Edited.{edited}
use Rattle.ir_edit.specs.Substituted.{replacement}
use Rattle.ir_facts.specs.Candidates.{candidates}
use Rattle.ir_facts.proofs.Availability.{all_there, all_then}
use Rattle.ir_facts.proofs.Covering.{covered}
use Rattle.ir_facts.proofs.EditedItems.{item_by, typings_same}
use Rattle.ir_facts.proofs.Editing.{edges_same, locals_same, numbers_same}
use Rattle.ir_facts.proofs.Holding.{Known, known_one}
use Rattle.ir_facts.proofs.Replaced.{all_still, block_then, edges_still, end_is, line_is, locals_still, numbers_still, place_still, typings_still}
use Rattle.ir_facts.proofs.ReplacedCovers.{covered_then}
use Rattle.ir_facts.proofs.RuleTypes.{Typed}
use Rattle.ir_facts.proofs.SourceTypes.{source_typed}
use Rattle.ir_facts.proofs.Sourcing.{are_sources}
use Rattle.ir_facts.proofs.StepSound.{IsChanged, casts_right, changed, count_changed, differs_right, follows, has_edges, item_formed, leaves_entry, place_same, same_count, stands_right, types_still}
use Rattle.ir_facts.proofs.Substituting.{wider}

-- ---- functions with the same definitions, types and edges

pub record Alike (f g : Function) : Type 0 where
  pub locals_are : locals f ≡ locals g
  pub numbers_are : numbers f ≡ numbers g
  pub typings_are : typings f ≡ typings g
  pub result_is : f.result ≡ g.result
  pub places_are : (n : ℕ) → place f.blocks n ≡ place g.blocks n
  pub edges_are : (b : ℕ) → edges f b ≡ edges g b

module _ (f g : Function) (like : Alike f g) where
  operand_moved : (o : Operand) → OperandFormed f o → OperandFormed g o
  operand_moved (Local x) k = ap (λ (xs : List ℕ). holds xs x) (sym like.locals_are) ∙ k
  operand_moved (Constant w n) k = k
  operand_moved Null k = k
  operand_moved (PoisonOf reg) k = k
  operand_moved (Named s i) k = k

  type_moved : (o : Operand) → type_of f o ≡ type_of g o
  type_moved (Local x) = ap (λ (ts : List Typing). typing ts x) like.typings_are
  type_moved (Constant w n) = refl
  type_moved Null = refl
  type_moved (PoisonOf reg) = refl
  type_moved (Named s i) = refl

  block_moved : (n : ℕ) → IsBlock f n → IsBlock g n
  block_moved n k = ap (λ (xs : List ℕ). holds xs n) (sym like.numbers_are) ∙ k

  kind_moved : (item : Item) → KindFormed f item → KindFormed g item
  kind_moved (phi_item b phi) k = k
  kind_moved (line_item b n l) k = k
  kind_moved (end_item b t) k = (k.0, all_then (IsBlock f) (IsBlock g) (successors t) block_moved k.1)

  pub formed_moved : (item : Item) → ItemFormed f item → ItemFormed g item
  formed_moved item k = record {
    operands = all_then (ArgumentFormed f) (ArgumentFormed g) (operands item) (λ a own. (own.0, operand_moved a.operand own.1)) k.operands;
    sources = all_then (λ e. IsBlock f e.from) (λ e. IsBlock g e.from) (entries item) (λ e. block_moved e.from) k.sources;
    kind = kind_moved item k.kind;
  }

  end_types_moved : (t : Terminator) → EndTypes f t → EndTypes g t
  end_types_moved (Return argument) k = k ∙ like.result_is
  end_types_moved (Jump target) k = tt
  end_types_moved (Branch o yes' no') k = tt
  end_types_moved (Switch w o default cases) k = k
  end_types_moved Unreachable k = tt

  kind_types_moved : (item : Item) → KindTypes f item → KindTypes g item
  kind_types_moved (phi_item b phi) k = tt
  kind_types_moved (line_item b n l) k = k
  kind_types_moved (end_item b t) k = end_types_moved t k

  pub types_moved : (item : Item) → Keeps f TypeMismatch item → Keeps g TypeMismatch item
  types_moved item k = (
    all_then (HasType f) (HasType g) (operands item) (λ a own. sym (type_moved a.operand) ∙ own) k.0,
    kind_types_moved item k.1,
  )

  on_edges_moved : (b : ℕ) (es : List Incoming) → OnEdges f b es → OnEdges g b es
  on_edges_moved b es k = record {
    each = λ p.
        same_count (λ e. nat_eq (place g.blocks e.from) p) (λ e. nat_eq (place f.blocks e.from) p) (λ e. ap (λ (q : ℕ). nat_eq q p) (sym (like.places_are e.from))) es
        ∙ k.each p
        ∙ ap (count_by (λ q. nat_eq q p)) (like.edges_are b);
    equal = k.equal;
  }

  line_edges_moved : (b : ℕ) (i : Instr) → LineOnEdges f b i → LineOnEdges g b i
  line_edges_moved b (kind.Binary op flags width left right) k = tt
  line_edges_moved b (kind.Icmp predicate reg left right) k = tt
  line_edges_moved b (kind.Cast op from value to) k = tt
  line_edges_moved b (kind.Select condition if_true if_false) k = tt
  line_edges_moved b (kind.Freeze reg value) k = tt
  line_edges_moved b (kind.Alloca shape align) k = tt
  line_edges_moved b (kind.Load reg address align) k = tt
  line_edges_moved b (kind.Store reg value address align) k = tt
  line_edges_moved b (kind.Address inbounds shape base indices) k = tt
  line_edges_moved b (kind.Call result callee arguments) k = tt
  line_edges_moved b (kind.Phi reg incoming) k = on_edges_moved b incoming k

  pub has_edges_moved : (item : Item) → HasEdges f item → HasEdges g item
  has_edges_moved (phi_item b phi) k = on_edges_moved b phi.incoming k
  has_edges_moved (line_item b n l) k = line_edges_moved b l.instr k
  has_edges_moved (end_item b t) k = tt

  pub leaves_moved : (item : Item) → LeavesEntry f item → LeavesEntry g item
  leaves_moved (phi_item b phi) k = tt
  leaves_moved (line_item b n l) k = tt
  leaves_moved (end_item b t) k =
      all_then (λ n. place f.blocks n ≡ 0 → ⊥) (λ n. place g.blocks n ≡ 0 → ⊥) (successors t) (λ n away here. away (like.places_are n ∙ here)) k

-- ---- items, before and after

module _ (c : ℕ → Option Operand) (f : Function) (takes : (fs : Facts) → Known c fs → (o : Operand) (t : Reg) → Typed f t o → Typed f t (replaced fs o))
    (starts ends : ℕ → Facts) (known : (n : ℕ) → Known c (starts n)) (at_ends : (n : ℕ) → Known c (ends n)) where
  abbrev g : Function
  g = function_replaced c starts ends f

  abbrev IsFair : (Operand → Operand) → Type 0
  IsFair h = ((o : Operand) (t : Reg) → Typed f t o → Typed f t (h o)) × ((w n : ℕ) → h (Constant w n) ≡ Constant w n)

  abbrev entry_then : Incoming → Incoming
  entry_then e = record { from = e.from; value = replaced (ends e.from) e.value }

  abbrev phi_then : Phi → Phi
  phi_then p = record { local = p.local; reg = p.reg; incoming = edges_replaced ends p.incoming }

  -- a phi takes each operand by the facts at its edge; another item has one change for all that it reads
  abbrev Becomes : Item → Item → Type 0
  Becomes (phi_item b p) m = m ≡ phi_item b (phi_then p)
  Becomes item m = (h : Operand → Operand) × IsFair h × (m ≡ item_by h item)

  abbrev Become : List Item → List Item → Type 0
  Become [] [] = Unit {0}
  Become (i ∷ is) (m ∷ ms) = Becomes i m × Become is ms
  Become _ _ = ⊥

  become_both : (is ms js ns : List Item) → Become is ms → Become js ns → Become (is ++ js) (ms ++ ns)
  become_both [] [] js ns a b = b
  become_both [] (m ∷ ms) js ns a b = absurd a
  become_both (i ∷ is) [] js ns a b = absurd a
  become_both (i ∷ is) (m ∷ ms) js ns a b = (a.0, become_both is ms js ns a.1 b)

  phis_become : (b : ℕ) (ps : List Phi) → Become (map (phi_item b) ps) (map (phi_item b) (phis_replaced ends ps))
  phis_become b [] = tt
  phis_become b (p ∷ ps) = (refl, phis_become b ps)

  lines_become : (b n : ℕ) (ls : List Line) (fs : Facts) → Known c fs → Become (lines_from b n ls) (lines_from b n (lines_replaced c fs ls))
  lines_become b n [] fs k = tt
  lines_become b n (l ∷ ls) fs k = (
    (replaced fs, (takes fs k, (λ w n. refl)), ap (λ (m : Line). line_item b n m) (line_is (replaced fs) l)),
    lines_become b (suc n) ls (behind_local c l.local fs) (known_one c l.local fs k),
  )

  block_becomes : (b : ℕ) (block : Block) → Become (block_items b block) (block_items b (block_then c starts ends block))
  block_becomes b block =
      become_both (map (phi_item b) block.phis) (map (phi_item b) (phis_replaced ends block.phis)) (lines_from b 0 block.lines ++ end_item b block.end ∷ [])
      (lines_from b 0 (lines_replaced c (starts block.number) block.lines) ++ end_item b (block_then c starts ends block).end ∷ [])
      (phis_become b block.phis)
      (become_both (lines_from b 0 block.lines) (lines_from b 0 (lines_replaced c (starts block.number) block.lines)) (end_item b block.end ∷ []) (end_item b (block_then c starts ends block).end ∷ [])
      (lines_become b 0 block.lines (starts block.number) (known block.number))
      ((replaced (ends block.number), (takes (ends block.number) (at_ends block.number), (λ w n. refl)), ap (λ (t : Terminator). end_item b t) (end_is (ends block.number) block.end)), tt))

  blocks_become : (b : ℕ) (bs : List Block) → Become (items_from b bs) (items_from b (blocks_replaced c starts ends bs))
  blocks_become b [] = tt
  blocks_become b (block ∷ bs) =
      become_both (block_items b block) (block_items b (block_then c starts ends block)) (items_from (suc b) bs) (items_from (suc b) (blocks_replaced c starts ends bs)) (block_becomes b block) (blocks_become (suc b) bs)

  items_become : Become (items f) (items g)
  items_become = blocks_become 0 f.blocks

  none_all : (P : Item → Type 0) → All P []
  none_all P = λ k d lt. absurd (omega (arith, lt))

  all_become : (P Q : Item → Type 0) → ((i m : Item) → Becomes i m → P i → Q m) → (is ms : List Item) → Become is ms → All P is → All Q ms
  all_become P Q to [] [] a k = none_all Q
  all_become P Q to [] (m ∷ ms) a k = absurd a
  all_become P Q to (i ∷ is) [] a k = absurd a
  all_become P Q to (i ∷ is) (m ∷ ms) a k = All-cons Q m ms (to i m a.0 (All-head P i is k)) (all_become P Q to is ms a.1 (All-tail P i is k))

  -- ---- entries of phis

  edges_are : (es : List Incoming) → edges_replaced ends es ≡ map entry_then es
  edges_are [] = refl
  edges_are (e ∷ es) = ap (λ (more : List Incoming). entry_then e ∷ more) (edges_are es)

  entry_fair : (e : Incoming) (reg : Reg) → ArgumentFormed f (typed reg e.value) → HasType f (typed reg e.value) → Typed f reg (replaced (ends e.from) e.value)
  entry_fair e reg k t = takes (ends e.from) (at_ends e.from) e.value reg (t, k.1)

  taken_formed : (reg : Reg) (es : List Incoming) → All (ArgumentFormed f) (taken_as reg es) → All (HasType f) (taken_as reg es) → All (ArgumentFormed f) (taken_as reg (edges_replaced ends es)) × All (HasType f) (taken_as reg (edges_replaced ends es))
  taken_formed reg [] k t = (k, t)
  taken_formed reg (e ∷ es) k t =
      let head = All-head (ArgumentFormed f) (typed reg e.value) (taken_as reg es) k in
      let own = entry_fair e reg head (All-head (HasType f) (typed reg e.value) (taken_as reg es) t) in
      let rest = taken_formed reg es (All-tail (ArgumentFormed f) (typed reg e.value) (taken_as reg es) k) (All-tail (HasType f) (typed reg e.value) (taken_as reg es) t) in (
        All-cons (ArgumentFormed f) (typed reg (replaced (ends e.from) e.value)) (taken_as reg (edges_replaced ends es)) (head.0, own.1) rest.0,
        All-cons (HasType f) (typed reg (replaced (ends e.from) e.value)) (taken_as reg (edges_replaced ends es)) own.0 rest.1,
      )

  sources_then : (es : List Incoming) → All (λ e. IsBlock f e.from) es → All (λ e. IsBlock f e.from) (edges_replaced ends es)
  sources_then [] k = k
  sources_then (e ∷ es) k =
      All-cons (λ e. IsBlock f e.from) (entry_then e) (edges_replaced ends es) (All-head (λ e. IsBlock f e.from) e es k) (sources_then es (All-tail (λ e. IsBlock f e.from) e es k))

  on_edges_then : (b : ℕ) (es : List Incoming) → OnEdges f b es → OnEdges f b (edges_replaced ends es)
  on_edges_then b es k = subst (OnEdges f b) (sym (edges_are es)) (record {
    each = λ p. count_changed entry_then (λ e. nat_eq (place f.blocks e.from) p) es ∙ k.each p;
    equal = λ i j e d at_i at_j same. by i j e d same (changed entry_then es i e at_i) (changed entry_then es j d at_j);
  })
    where
      by : (i j : ℕ) (e d : Incoming) → e.from ≡ d.from → IsChanged entry_then es i e → IsChanged entry_then es j d → e.value ≡ d.value
      by i j e d same (x, x_at, x_is) (y, y_at, y_is) =
          let from : x.from ≡ y.from = ap (λ (z : Incoming). z.from) x_is ∙ same ∙ ap (λ (z : Incoming). z.from) (sym y_is) in
          ap (λ (z : Incoming). z.value) (sym x_is)
          ∙ (λ t. replaced (ends (from t)) (k.equal i j x y x_at y_at from t))
          ∙ ap (λ (z : Incoming). z.value) y_is

  -- ---- soundness

  edit_alike : (h : Operand → Operand) → IsFair h → Alike (edited (λ x. x) h f) g
  edit_alike h fair = record {
    locals_are = locals_same h f ∙ sym (locals_still c starts ends f);
    numbers_are = numbers_same h f ∙ sym (numbers_still c starts ends f);
    typings_are = typings_same h f ∙ sym (typings_still c starts ends f);
    result_is = refl;
    places_are = λ n. place_same h f fair.0 fair.1 f.blocks n ∙ sym (place_still c starts ends f.blocks n);
    edges_are = λ b. edges_same h f b ∙ sym (edges_still c starts ends f b);
  }

  like : Alike f g
  like = record {
    locals_are = sym (locals_still c starts ends f);
    numbers_are = sym (numbers_still c starts ends f);
    typings_are = sym (typings_still c starts ends f);
    result_is = refl;
    places_are = λ n. sym (place_still c starts ends f.blocks n);
    edges_are = λ b. sym (edges_still c starts ends f b);
  }

  abbrev Before : Item → Type 0
  Before item = ItemFormed f item × Keeps f TypeMismatch item

  -- by one change
  formed_by : (item m : Item) (h : Operand → Operand) → IsFair h → m ≡ item_by h item → Before item → ItemFormed g m
  formed_by item m h fair e k = subst (ItemFormed g) (sym e) (formed_moved (edited (λ x. x) h f) g (edit_alike h fair) (item_by h item) (item_formed h f fair.0 fair.1 item k.0 k.1.0))

  types_by : (item m : Item) (h : Operand → Operand) → IsFair h → m ≡ item_by h item → Before item → Keeps g TypeMismatch m
  types_by item m h fair e k = subst (Keeps g TypeMismatch) (sym e) (types_moved (edited (λ x. x) h f) g (edit_alike h fair) (item_by h item) (types_still h f fair.0 fair.1 item k))

  edges_by : (item m : Item) (h : Operand → Operand) → IsFair h → m ≡ item_by h item → HasEdges f item → HasEdges g m
  edges_by item m h fair e k = subst (HasEdges g) (sym e) (has_edges_moved (edited (λ x. x) h f) g (edit_alike h fair) (item_by h item) (has_edges h f fair.0 fair.1 item k))

  leaves_by : (item m : Item) (h : Operand → Operand) → IsFair h → m ≡ item_by h item → LeavesEntry f item → LeavesEntry g m
  leaves_by item m h fair e k = subst (LeavesEntry g) (sym e) (leaves_moved (edited (λ x. x) h f) g (edit_alike h fair) (item_by h item) (leaves_entry h f fair.0 fair.1 item k))

  formed_then : (item m : Item) → Becomes item m → Before item → ItemFormed g m
  formed_then (phi_item b p) m e k = subst (ItemFormed g) (sym e) (formed_moved f g like (phi_item b (phi_then p)) (record {
    operands = (taken_formed p.reg p.incoming k.0.operands k.1.0).0;
    sources = sources_then p.incoming k.0.sources;
    kind = k.0.kind;
  }))
  formed_then (line_item b n l) m (h, fair, e) k = formed_by (line_item b n l) m h fair e k
  formed_then (end_item b t) m (h, fair, e) k = formed_by (end_item b t) m h fair e k

  types_then : (item m : Item) → Becomes item m → Before item → Keeps g TypeMismatch m
  types_then (phi_item b p) m e k = subst (Keeps g TypeMismatch) (sym e) (types_moved f g like (phi_item b (phi_then p)) ((taken_formed p.reg p.incoming k.0.operands k.1.0).1, tt))
  types_then (line_item b n l) m (h, fair, e) k = types_by (line_item b n l) m h fair e k
  types_then (end_item b t) m (h, fair, e) k = types_by (end_item b t) m h fair e k

  edges_then : (item m : Item) → Becomes item m → HasEdges f item → HasEdges g m
  edges_then (phi_item b p) m e k = subst (HasEdges g) (sym e) (on_edges_moved f g like b (edges_replaced ends p.incoming) (on_edges_then b p.incoming k))
  edges_then (line_item b n l) m (h, fair, e) k = edges_by (line_item b n l) m h fair e k
  edges_then (end_item b t) m (h, fair, e) k = edges_by (end_item b t) m h fair e k

  stands_then : (item m : Item) → Becomes item m → StandsRight item → StandsRight m
  stands_then (phi_item b p) m e k = subst StandsRight (sym e) k
  stands_then (line_item b n l) m (h, fair, e) k = subst StandsRight (sym e) (stands_right h f fair.0 fair.1 (line_item b n l) k)
  stands_then (end_item b t) m (h, fair, e) k = subst StandsRight (sym e) (stands_right h f fair.0 fair.1 (end_item b t) k)

  leaves_then : (item m : Item) → Becomes item m → LeavesEntry f item → LeavesEntry g m
  leaves_then (phi_item b p) m e k = subst (LeavesEntry g) (sym e) tt
  leaves_then (line_item b n l) m (h, fair, e) k = leaves_by (line_item b n l) m h fair e k
  leaves_then (end_item b t) m (h, fair, e) k = leaves_by (end_item b t) m h fair e k

  follows_then : (item m : Item) → Becomes item m → Follows item → Follows m
  follows_then (phi_item b p) m e k = subst Follows (sym e) tt
  follows_then (line_item b n l) m (h, fair, e) k = subst Follows (sym e) (follows h f fair.0 fair.1 (line_item b n l) k)
  follows_then (end_item b t) m (h, fair, e) k = subst Follows (sym e) (follows h f fair.0 fair.1 (end_item b t) k)

  casts_then : (item m : Item) → Becomes item m → CastsRight item → CastsRight m
  casts_then (phi_item b p) m e k = subst CastsRight (sym e) tt
  casts_then (line_item b n l) m (h, fair, e) k = subst CastsRight (sym e) (casts_right h f fair.0 fair.1 (line_item b n l) k)
  casts_then (end_item b t) m (h, fair, e) k = subst CastsRight (sym e) (casts_right h f fair.0 fair.1 (end_item b t) k)

  differs_then : (item m : Item) → Becomes item m → DiffersRight item → DiffersRight m
  differs_then (phi_item b p) m e k = subst DiffersRight (sym e) tt
  differs_then (line_item b n l) m (h, fair, e) k = subst DiffersRight (sym e) (differs_right h f fair.0 fair.1 (line_item b n l) k)
  differs_then (end_item b t) m (h, fair, e) k = subst DiffersRight (sym e) (differs_right h f fair.0 fair.1 (end_item b t) k)

  no_blocks : (bs : List Block) → blocks_replaced c starts ends bs ≡ [] → bs ≡ []
  no_blocks [] e = refl
  no_blocks (b ∷ bs) e = absurd (cc e)

  module _ (sound : Sound f) (there : All (λ item. ReadsThere g item × EntriesThere g item) (items g)) where
    items_then : (P Q : Item → Type 0) → ((i m : Item) → Becomes i m → P i → Q m) → All P (items f) → All Q (items g)
    items_then P Q to k = all_become P Q to (items f) (items g) items_become k

    before : All Before (items f)
    before = λ i d lt. (sound.formed.items i d lt, sound.rules TypeMismatch i d lt)

    keeps_then : (rule : Rule) → All (Keeps g rule) (items g)
    keeps_then TypeMismatch = items_then Before (Keeps g TypeMismatch) types_then before
    keeps_then NotAvailable = there
    keeps_then PhiEdges = items_then (Keeps f PhiEdges) (Keeps g PhiEdges) edges_then (sound.rules PhiEdges)
    keeps_then PhiPlace = items_then (Keeps f PhiPlace) (Keeps g PhiPlace) stands_then (sound.rules PhiPlace)
    keeps_then EntryBranch = items_then (Keeps f EntryBranch) (Keeps g EntryBranch) leaves_then (sound.rules EntryBranch)
    keeps_then Index = items_then (Keeps f Index) (Keeps g Index) follows_then (sound.rules Index)
    keeps_then Cast = items_then (Keeps f Cast) (Keeps g Cast) casts_then (sound.rules Cast)
    keeps_then CaseTwice = items_then (Keeps f CaseTwice) (Keeps g CaseTwice) differs_then (sound.rules CaseTwice)

    pub sound_then : Sound g
    sound_then = record {
      formed = record {
        result = sound.formed.result;
        params = sound.formed.params;
        once = subst Distinct (sym (all_still c starts ends f)) sound.formed.once;
        items = items_then Before (ItemFormed g) formed_then before;
        declared = λ none. sound.formed.declared (no_blocks f.blocks none);
      };
      rules = keeps_then;
    }

-- ---- of candidates

module _ (f : Function) (sound : Sound f) where
  local_typed : (fs : Facts) (x : ℕ) (t : Reg) → Known (replacement (candidates f)) fs → Typed f t (Local x) → Typed f t (replaced_local fs x)
  local_typed [] x t known h = h
  local_typed ((y, u) ∷ fs) x t known h = by (y == x) refl (local_typed fs x t (λ z v has. known z v (inr has)) h)
    where
      by : (b : Bool) → (y == x) ≡ b → Typed f t (replaced_local fs x) → Typed f t (if b then u else replaced_local fs x)
      by true q rest = source_typed f sound x u t (known x u (inl (eqb-true y x q, refl))) h.0
      by false q rest = rest

  fact_typed : (fs : Facts) → Known (replacement (candidates f)) fs → (o : Operand) (t : Reg) → Typed f t o → Typed f t (replaced fs o)
  fact_typed fs known (Local x) t h = local_typed fs x t known h
  fact_typed fs known (Constant w n) t h = h
  fact_typed fs known Null t h = h
  fact_typed fs known (PoisonOf reg) t h = h
  fact_typed fs known (Named s i) t h = h

  pub replaced_sound : (starts ends : ℕ → Facts) → ((n : ℕ) → Known (replacement (candidates f)) (starts n)) → ((n : ℕ) → Known (replacement (candidates f)) (ends n))
      → Sound (function_replaced (replacement (candidates f)) starts ends f)
  replaced_sound starts ends known at_ends =
      let found = covered f sound in
      let cov = covered_then (replacement (candidates f)) found.family f found.held (are_sources found.family f found.held) starts ends known at_ends in
      sound_then (replacement (candidates f)) f fact_typed starts ends known at_ends sound
      (all_there (wider found.family (replacement (candidates f)) f) (function_replaced (replacement (candidates f)) starts ends f) cov)
