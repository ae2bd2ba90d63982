-- What items of a sound function keep as their operands are changed.
use Rattle.std.proofs.Common.{◌≡◌, ◌+◌, ℕ, zero, suc, nat_eq, Bool, cond, List, [], ◌∷◌, Option, Some, None, map, option_map, get_or, refl, sym, ◌∙◌, ap, subst, if◌then◌else◌}
use Rattle.std.specs.Prelude.{All, IsSome, slice_get}
use Rattle.std.specs.List.{count_by}
use Rattle.std.proofs.lemmas.List.Elements.{All-map}
use Rattle.std.proofs.lemmas.List.Sums.{sum_by-cons}
use Rattle.std.proofs.lemmas.Option.{slice_get-map}
use Rattle.ir_tree.specs.Forms.{Form, int, pointer, array, structure}
use Rattle.ir_tree.specs.Flow.{holds, successors}
use Rattle.ir_tree.specs.Formed.{ArgumentFormed, CaseFormed, CasesFormed, InstrFormed, IsBlock, ItemFormed, KindFormed, ResultFormed}
use Rattle.ir_tree.specs.Items.{Item, phi_item, line_item, end_item, entries, operands, taken, typed}
use Rattle.ir_tree.specs.Rules.{CaseHas, CasesDiffer, CastsRight, DiffersRight, EndDiffers, EndTypes, Follow, Follows, HasEdges, HasType, IndicesFollow, IsNoPhi, Keeps, KindTypes, LeavesEntry, LineCasts, LineFollows, LineOnEdges, LineTypes, OnEdges, StandsRight, place}
use Rattle.ir_tree.specs.declared.block.Block.{Block}
use Rattle.ir_tree.specs.declared.block.Case.{Case}
use Rattle.ir_tree.specs.declared.block.Terminator.{Terminator}
use Rattle.ir_tree.specs.declared.block.Terminator.TheVariants.{Branch, Jump, Return, Switch, Unreachable}
use Rattle.ir_tree.specs.declared.function.Function.{Function}
use Rattle.ir_tree.specs.declared.instr.Incoming.{Incoming}
use Rattle.ir_tree.specs.declared.instr.Instr.{Instr}
use Rattle.ir_tree.specs.declared.instr.Instr.TheVariants as kind
use Rattle.ir_tree.specs.declared.operand.Argument.{Argument}
use Rattle.ir_tree.specs.declared.operand.Operand.{Operand}
use Rattle.ir_tree.specs.declared.operand.Operand.TheVariants.{Number as Constant}
use Rattle.ir_tree.specs.declared.operand.Reg.{Reg}
use Rattle.ir_tree.specs.declared.operand.Reg.TheVariants.{Int}
use Rattle.ir_tree.specs.declared.rule.Rule.TheVariants.{TypeMismatch}
use Rattle.ir_tree.specs.Edited.{argument_edited, case_edited, edited, end_edited, incoming_edited, instr_edited}
use Rattle.ir_facts.proofs.Availability.{all_then}
use Rattle.ir_facts.proofs.EditedItems.{formed_same, item_by, operands_same, type_same}
use Rattle.ir_facts.proofs.Editing.{block_by, edges_same, numbers_same, targets_same}
use Rattle.ir_facts.proofs.RuleTypes.{Typed}

-- ---- lists of changed elements

all_along : {X : Type 0} (P : X → Type 0) (xs ys : List X) → xs ≡ ys → All P xs → All P ys
all_along P xs ys e h = subst (All P) e h

pub all_with : {X : Type 0} (P Q R : X → Type 0) (xs : List X) → ((x : X) → P x → Q x → R x) → All P xs → All Q xs → All R xs
all_with P Q R xs f h g = λ k d lt. f (get_or xs k d) (h k d lt) (g k d lt)

pub same_count : {A : Type 0} (p q : A → Bool) → ((x : A) → p x ≡ q x) → (xs : List A) → count_by p xs ≡ count_by q xs
same_count p q e xs = λ i. count_by (λ x. e x i) xs

pub count_changed : {A B : Type 0} (f : A → B) (p : B → Bool) (xs : List A) → count_by p (map f xs) ≡ count_by (λ x. p (f x)) xs
count_changed f p [] = refl
count_changed f p (x ∷ xs) =
    sum_by-cons (λ y. cond (p y) 1 0) (f x) (map f xs) ∙ ap (λ n. cond (p (f x)) 1 0 + n) (count_changed f p xs) ∙ sym (sum_by-cons (λ z. cond (p (f z)) 1 0) x xs)

abbrev pub IsChanged : {A B : Type 0} → (A → B) → List A → ℕ → B → Type 0
IsChanged {A} f xs i y = (x : A) × (slice_get xs i ≡ Some x) × (f x ≡ y)

pub of_option : {A B : Type 0} (f : A → B) (o : Option A) (y : B) → option_map f o ≡ Some y → (x : A) × (o ≡ Some x) × (f x ≡ y)
of_option f None y e = absurd (cc e)
of_option f (Some x) y e = (x, refl, cc e)

pub changed : {A B : Type 0} (f : A → B) (xs : List A) (i : ℕ) (y : B) → slice_get (map f xs) i ≡ Some y → IsChanged f xs i y
changed f xs i y e = of_option f (slice_get xs i) y (sym (slice_get-map f xs i) ∙ e)

some_still : (o : Option ℕ) → IsSome o → IsSome (option_map (λ x. x) o)
some_still None h = h
some_still (Some x) h = h

none_still : (o : Option ℕ) → o ≡ None → option_map (λ (x : ℕ). x) o ≡ None
none_still o e = ap (option_map (λ (x : ℕ). x)) e

module _ (h : Operand → Operand) (f : Function) (takes : (o : Operand) (t : Reg) → Typed f t o → Typed f t (h o)) (stays : (w n : ℕ) → h (Constant w n) ≡ Constant w n) where
  abbrev g : Function
  g = edited (λ x. x) h f

  no_blocks : (bs : List Block) → map (block_by h) bs ≡ [] → bs ≡ []
  no_blocks [] e = refl
  no_blocks (b ∷ bs) e = absurd (cc e)

  block_there : (n : ℕ) → IsBlock f n → IsBlock g n
  block_there n k = ap (λ (l : List ℕ). holds l n) (numbers_same h f) ∙ k

  argument_right : (a : Argument) → ArgumentFormed f a → HasType f a → ArgumentFormed g (argument_edited h a) × HasType g (argument_edited h a)
  argument_right a k t =
      let new = takes a.operand a.reg (t, k.1) in
      ((k.0, formed_same h f (h a.operand) new.1), type_same h f (h a.operand) ∙ new.0)

  pub place_same : (bs : List Block) (n : ℕ) → place (map (block_by h) bs) n ≡ place bs n
  place_same [] n = refl
  place_same (b ∷ bs) n = λ i. if nat_eq b.number n then zero else suc (place_same bs n i)

  -- ---- formed

  instr_formed : (i : Instr) → InstrFormed i → InstrFormed (instr_edited (λ x. x) h i)
  instr_formed (kind.Binary op flags width left right) k = k
  instr_formed (kind.Icmp predicate reg left right) k = tt
  instr_formed (kind.Cast op from value to) k = k
  instr_formed (kind.Select condition if_true if_false) k = tt
  instr_formed (kind.Freeze reg value) k = tt
  instr_formed (kind.Alloca shape align) k = k
  instr_formed (kind.Load reg address align) k = k
  instr_formed (kind.Store reg value address align) k = k
  instr_formed (kind.Address inbounds shape base indices) k = k
  instr_formed (kind.Call result callee arguments) k = k
  instr_formed (kind.Phi reg incoming) k = k

  result_formed : (i : Instr) (local : Option ℕ) → ResultFormed i local → ResultFormed (instr_edited (λ x. x) h i) (option_map (λ x. x) local)
  result_formed (kind.Binary op flags width left right) local k = some_still local k
  result_formed (kind.Icmp predicate reg left right) local k = some_still local k
  result_formed (kind.Cast op from value to) local k = some_still local k
  result_formed (kind.Select condition if_true if_false) local k = some_still local k
  result_formed (kind.Freeze reg value) local k = some_still local k
  result_formed (kind.Alloca shape align) local k = some_still local k
  result_formed (kind.Load reg address align) local k = some_still local k
  result_formed (kind.Store reg value address align) local k = none_still local k
  result_formed (kind.Address inbounds shape base indices) local k = some_still local k
  result_formed (kind.Call None callee arguments) local k = tt
  result_formed (kind.Call (Some reg) callee arguments) local k = some_still local k
  result_formed (kind.Phi reg incoming) local k = some_still local k

  cases_formed : (t : Terminator) → CasesFormed t → CasesFormed (end_edited (λ x. x) h t)
  cases_formed (Return argument) k = tt
  cases_formed (Jump target) k = tt
  cases_formed (Branch condition if_true if_false) k = tt
  cases_formed (Switch width value default cases) k = All-map CaseFormed (case_edited (λ x. x)) cases k
  cases_formed Unreachable k = tt

  targets_all : (P Q : ℕ → Type 0) (t : Terminator) → ((n : ℕ) → P n → Q n) → All P (successors t) → All Q (successors (end_edited (λ x. x) h t))
  targets_all P Q t to k = all_along Q (successors t) (successors (end_edited (λ x. x) h t)) (sym (targets_same h t)) (all_then P Q (successors t) to k)

  kind_formed : (item : Item) → KindFormed f item → KindFormed g (item_by h item)
  kind_formed (phi_item b phi) k = k
  kind_formed (line_item b n l) k = (instr_formed l.instr k.0, result_formed l.instr l.local k.1)
  kind_formed (end_item b t) k = (cases_formed t k.0, targets_all (IsBlock f) (IsBlock g) t block_there k.1)

  operands_all : (Q : Argument → Type 0) (item : Item) → All (λ a. Q (argument_edited h a)) (operands item) → All Q (operands (item_by h item))
  operands_all Q item k =
      all_along Q (map (argument_edited h) (operands item)) (operands (item_by h item)) (sym (operands_same h item)) (All-map Q (argument_edited h) (operands item) k)

  taken_same : (i : Instr) → taken (instr_edited (λ x. x) h i) ≡ map (incoming_edited (λ x. x) h) (taken i)
  taken_same (kind.Binary op flags width left right) = refl
  taken_same (kind.Icmp predicate reg left right) = refl
  taken_same (kind.Cast op from value to) = refl
  taken_same (kind.Select condition if_true if_false) = refl
  taken_same (kind.Freeze reg value) = refl
  taken_same (kind.Alloca shape align) = refl
  taken_same (kind.Load reg address align) = refl
  taken_same (kind.Store reg value address align) = refl
  taken_same (kind.Address inbounds shape base indices) = refl
  taken_same (kind.Call result callee arguments) = refl
  taken_same (kind.Phi reg incoming) = refl

  entries_same : (item : Item) → entries (item_by h item) ≡ map (incoming_edited (λ x. x) h) (entries item)
  entries_same (phi_item b phi) = refl
  entries_same (line_item b n l) = taken_same l.instr
  entries_same (end_item b t) = refl

  sources_formed : (item : Item) → All (λ e. IsBlock f e.from) (entries item) → All (λ e. IsBlock g e.from) (entries (item_by h item))
  sources_formed item k =
      all_along (λ e. IsBlock g e.from) (map (incoming_edited (λ x. x) h) (entries item)) (entries (item_by h item)) (sym (entries_same item))
      (All-map (λ e. IsBlock g e.from) (incoming_edited (λ x. x) h) (entries item) (all_then (λ e. IsBlock f e.from) (λ e. IsBlock g e.from) (entries item) (λ e. block_there e.from) k))

  pub item_formed : (item : Item) → ItemFormed f item → All (HasType f) (operands item) → ItemFormed g (item_by h item)
  item_formed item k types = record {
    operands =
        operands_all (ArgumentFormed g) item
        (all_with (ArgumentFormed f) (HasType f) (λ a. ArgumentFormed g (argument_edited h a)) (operands item) (λ a x y. (argument_right a x y).0) k.operands types);
    sources = sources_formed item k.sources;
    kind = kind_formed item k.kind;
  }

  -- ---- 1

  line_types : (local : Option ℕ) (i : Instr) → LineTypes local i → LineTypes (option_map (λ x. x) local) (instr_edited (λ x. x) h i)
  line_types local (kind.Binary op flags width left right) k = tt
  line_types local (kind.Icmp predicate reg left right) k = tt
  line_types local (kind.Cast op from value to) k = tt
  line_types local (kind.Select condition if_true if_false) k = k
  line_types local (kind.Freeze reg value) k = tt
  line_types local (kind.Alloca shape align) k = tt
  line_types local (kind.Load reg address align) k = tt
  line_types local (kind.Store reg value address align) k = tt
  line_types local (kind.Address inbounds shape base indices) k = tt
  line_types local (kind.Call None callee arguments) k = none_still local k
  line_types local (kind.Call (Some reg) callee arguments) k = tt
  line_types local (kind.Phi reg incoming) k = tt

  end_types : (t : Terminator) → EndTypes f t → EndTypes g (end_edited (λ x. x) h t)
  end_types (Return None) k = k
  end_types (Return (Some a)) k = k
  end_types (Jump target) k = tt
  end_types (Branch condition if_true if_false) k = tt
  end_types (Switch width value default cases) k = All-map (CaseHas width) (case_edited (λ x. x)) cases k
  end_types Unreachable k = tt

  kind_types : (item : Item) → KindTypes f item → KindTypes g (item_by h item)
  kind_types (phi_item b phi) k = tt
  kind_types (line_item b n l) k = line_types l.local l.instr k
  kind_types (end_item b t) k = end_types t k

  pub types_still : (item : Item) → ItemFormed f item × Keeps f TypeMismatch item → Keeps g TypeMismatch (item_by h item)
  types_still item k = (
    operands_all (HasType g) item
        (all_with (ArgumentFormed f) (HasType f) (λ a. HasType g (argument_edited h a)) (operands item) (λ a x y. (argument_right a x y).1) k.0.operands k.1.0),
    kind_types item k.1.1,
  )

  -- ---- 3 and 4

  on_edges : (b : ℕ) (es : List Incoming) → OnEdges f b es → OnEdges g b (map (incoming_edited (λ x. x) h) es)
  on_edges b es k = record {
    each = λ p.
        count_changed (incoming_edited (λ x. x) h) (λ e. nat_eq (place g.blocks e.from) p) es
        ∙ same_count (λ e. nat_eq (place g.blocks e.from) p) (λ e. nat_eq (place f.blocks e.from) p) (λ e. ap (λ (q : ℕ). nat_eq q p) (place_same f.blocks e.from)) es
        ∙ k.each p
        ∙ ap (count_by (λ q. nat_eq q p)) (sym (edges_same h f b));
    equal = λ i j e d at_i at_j same. by i j e d same (changed (incoming_edited (λ x. x) h) es i e at_i) (changed (incoming_edited (λ x. x) h) es j d at_j);
  }
    where
      by : (i j : ℕ) (e d : Incoming) → e.from ≡ d.from → IsChanged (incoming_edited (λ x. x) h) es i e → IsChanged (incoming_edited (λ x. x) h) es j d → e.value ≡ d.value
      by i j e d same (x, x_at, x_is) (y, y_at, y_is) =
          ap (λ (z : Incoming). z.value) (sym x_is)
          ∙ ap h (k.equal i j x y x_at y_at (ap (λ (z : Incoming). z.from) x_is ∙ same ∙ ap (λ (z : Incoming). z.from) (sym y_is)))
          ∙ ap (λ (z : Incoming). z.value) y_is

  line_on_edges : (b : ℕ) (i : Instr) → LineOnEdges f b i → LineOnEdges g b (instr_edited (λ x. x) h i)
  line_on_edges b (kind.Binary op flags width left right) k = tt
  line_on_edges b (kind.Icmp predicate reg left right) k = tt
  line_on_edges b (kind.Cast op from value to) k = tt
  line_on_edges b (kind.Select condition if_true if_false) k = tt
  line_on_edges b (kind.Freeze reg value) k = tt
  line_on_edges b (kind.Alloca shape align) k = tt
  line_on_edges b (kind.Load reg address align) k = tt
  line_on_edges b (kind.Store reg value address align) k = tt
  line_on_edges b (kind.Address inbounds shape base indices) k = tt
  line_on_edges b (kind.Call result callee arguments) k = tt
  line_on_edges b (kind.Phi reg incoming) k = on_edges b incoming k

  pub has_edges : (item : Item) → HasEdges f item → HasEdges g (item_by h item)
  has_edges (phi_item b phi) k = on_edges b phi.incoming k
  has_edges (line_item b n l) k = line_on_edges b l.instr k
  has_edges (end_item b t) k = tt

  no_phi : (i : Instr) → IsNoPhi i → IsNoPhi (instr_edited (λ x. x) h i)
  no_phi (kind.Binary op flags width left right) k = tt
  no_phi (kind.Icmp predicate reg left right) k = tt
  no_phi (kind.Cast op from value to) k = tt
  no_phi (kind.Select condition if_true if_false) k = tt
  no_phi (kind.Freeze reg value) k = tt
  no_phi (kind.Alloca shape align) k = tt
  no_phi (kind.Load reg address align) k = tt
  no_phi (kind.Store reg value address align) k = tt
  no_phi (kind.Address inbounds shape base indices) k = tt
  no_phi (kind.Call result callee arguments) k = tt
  no_phi (kind.Phi reg incoming) k = k

  pub stands_right : (item : Item) → StandsRight item → StandsRight (item_by h item)
  stands_right (phi_item b phi) k = k
  stands_right (line_item b n l) k = no_phi l.instr k
  stands_right (end_item b t) k = tt

  -- ---- 5 to 8

  pub leaves_entry : (item : Item) → LeavesEntry f item → LeavesEntry g (item_by h item)
  leaves_entry (phi_item b phi) k = tt
  leaves_entry (line_item b n l) k = tt
  leaves_entry (end_item b t) k =
      targets_all (λ n. place f.blocks n ≡ 0 → ⊥) (λ n. place g.blocks n ≡ 0 → ⊥) t (λ n away here. away (sym (place_same f.blocks n) ∙ here)) k

  follow : (form : Form) (as' : List Argument) → Follow form as' → Follow form (map (argument_edited h) as')
  follow form [] k = tt
  follow (int w) (a ∷ more) k = k
  follow pointer (a ∷ more) k = k
  follow (array n of) (a ∷ more) k = (k.0, follow of more k.1)
  follow (structure packed parts) (a ∷ more) (n, form, is, part, rest) = (n, form, ap (argument_edited h) is ∙ ap (λ (o : Operand). typed (Int 32) o) (stays 32 n), part, follow form more rest)

  indices_follow : (form : Form) (as' : List Argument) → IndicesFollow form as' → IndicesFollow form (map (argument_edited h) as')
  indices_follow form [] k = tt
  indices_follow form (a ∷ more) k = (k.0, follow form more k.1)

  line_follows : (i : Instr) → LineFollows i → LineFollows (instr_edited (λ x. x) h i)
  line_follows (kind.Binary op flags width left right) k = tt
  line_follows (kind.Icmp predicate reg left right) k = tt
  line_follows (kind.Cast op from value to) k = tt
  line_follows (kind.Select condition if_true if_false) k = tt
  line_follows (kind.Freeze reg value) k = tt
  line_follows (kind.Alloca shape align) k = tt
  line_follows (kind.Load reg address align) k = tt
  line_follows (kind.Store reg value address align) k = tt
  line_follows (kind.Address inbounds shape base indices) k = indices_follow shape indices k
  line_follows (kind.Call result callee arguments) k = tt
  line_follows (kind.Phi reg incoming) k = tt

  pub follows : (item : Item) → Follows item → Follows (item_by h item)
  follows (phi_item b phi) k = tt
  follows (line_item b n l) k = line_follows l.instr k
  follows (end_item b t) k = tt

  line_casts : (i : Instr) → LineCasts i → LineCasts (instr_edited (λ x. x) h i)
  line_casts (kind.Binary op flags width left right) k = tt
  line_casts (kind.Icmp predicate reg left right) k = k
  line_casts (kind.Cast op from value to) k = k
  line_casts (kind.Select condition if_true if_false) k = tt
  line_casts (kind.Freeze reg value) k = k
  line_casts (kind.Alloca shape align) k = tt
  line_casts (kind.Load reg address align) k = tt
  line_casts (kind.Store reg value address align) k = tt
  line_casts (kind.Address inbounds shape base indices) k = tt
  line_casts (kind.Call result callee arguments) k = tt
  line_casts (kind.Phi reg incoming) k = tt

  pub casts_right : (item : Item) → CastsRight item → CastsRight (item_by h item)
  casts_right (phi_item b phi) k = tt
  casts_right (line_item b n l) k = line_casts l.instr k
  casts_right (end_item b t) k = tt

  cases_differ : (cs : List Case) → CasesDiffer cs → CasesDiffer (map (case_edited (λ x. x)) cs)
  cases_differ cs k i j a d at_i at_j same = by (changed (case_edited (λ x. x)) cs i a at_i) (changed (case_edited (λ x. x)) cs j d at_j)
    where
      by : IsChanged (case_edited (λ x. x)) cs i a → IsChanged (case_edited (λ x. x)) cs j d → i ≡ j
      by (x, x_at, x_is) (y, y_at, y_is) = k i j x y x_at y_at (ap (λ (z : Case). z.bits) x_is ∙ same ∙ ap (λ (z : Case). z.bits) (sym y_is))

  end_differs : (t : Terminator) → EndDiffers t → EndDiffers (end_edited (λ x. x) h t)
  end_differs (Return argument) k = tt
  end_differs (Jump target) k = tt
  end_differs (Branch condition if_true if_false) k = tt
  end_differs (Switch width value default cases) k = cases_differ cases k
  end_differs Unreachable k = tt

  pub differs_right : (item : Item) → DiffersRight item → DiffersRight (item_by h item)
  differs_right (phi_item b phi) k = tt
  differs_right (line_item b n l) k = tt
  differs_right (end_item b t) k = end_differs t k
