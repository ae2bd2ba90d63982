-- A sound global value is sound under other names for symbols: a function has the same locals, blocks and edges, and its operands
-- have the same types; an initialiser has the same shape.
use Rattle.std.proofs.Common.{◌≡◌, ◌∙◌, ◌||◌, ◌+◌, Bool, cond, get_or, inl, inr, ℕ, suc, nat_eq, List, [], ◌∷◌, ◌++◌, Option, Some, None, map, option_map, take, refl, sym, ap, subst, if◌then◌else◌}
use Rattle.std.specs.List.{cons_option}
use Rattle.std.specs.Prelude.{All, count_by, filter_map, flat_map, slice_get}
use Rattle.std.proofs.lemmas.List.{length-map, map-append, take-map}
use Rattle.std.proofs.lemmas.List.Elements.{All-map}
use Rattle.std.proofs.lemmas.List.Sums.{sum_by-cons}
use Rattle.std.proofs.lemmas.Option.{slice_get-map}
use Rattle.ir_tree.specs.Flow.{Available, AvailableAt, AvailableAtEnd, Equations, IsMarked, availability, defined_before, defined_in, definitions, edges, entry_row, holds, leading, leading_to, line_count, locals, parameters, repeated, results, room, successors}
use Rattle.ir_tree.specs.Formed.{ArgumentFormed, CasesFormed, Distinct, Formed, InstrFormed, IsBlock, ItemFormed, KindFormed, OperandFormed, ResultFormed, numbers}
use Rattle.ir_tree.specs.Forms.{Form, int, pointer, array, structure}
use Rattle.ir_tree.specs.Items.{Item, phi_item, line_item, end_item, block_items, end_reads, entries, items, items_from, lines_from, operands, phi_reads, reads, taken, taken_as, typed}
use Rattle.ir_tree.specs.Rules.{EndDiffers, EndTypes, EntriesThere, Follow, HasEdges, HasType, IndicesFollow, IsNoPhi, IsThere, IsThereAtEnd, Keeps, KindTypes, LeavesEntry, LineCasts, LineFollows, LineOnEdges, LineTypes, OnEdges, ReadsThere, Sound, StandsRight, Typing, block_typings, line_typing, place, result_type, type_of, typing, typings}
use Rattle.ir_tree.specs.Initials.{Initial, plain, zeros, bytes, elements, members, Initials, no_initials, initial}
use Rattle.ir_tree.specs.Wholes.{ConstantFormed, VariableFormed, all_operands, init_operands, initial_operands}
use Rattle.ir_tree.specs.declared.block.Block.{Block}
use Rattle.ir_tree.specs.declared.block.Terminator.{Terminator}
use Rattle.ir_tree.specs.declared.block.Terminator.TheVariants.{Branch, Jump, Return, Switch, Unreachable}
use Rattle.ir_tree.specs.declared.function.Function.{Function}
use Rattle.ir_tree.specs.declared.function.Variable.{Variable}
use Rattle.ir_tree.specs.declared.instr.Incoming.{Incoming}
use Rattle.ir_tree.specs.declared.instr.Instr.{Instr}
use Rattle.ir_tree.specs.declared.instr.Instr.TheVariants as kind
use Rattle.ir_tree.specs.declared.instr.Line.{Line}
use Rattle.ir_tree.specs.declared.instr.Phi.{Phi}
use Rattle.ir_tree.specs.declared.module.GlobalValue.TheVariants as global
use Rattle.ir_tree.specs.declared.operand.Argument.{Argument}
use Rattle.ir_tree.specs.declared.operand.Operand.{Operand}
use Rattle.ir_tree.specs.declared.operand.Operand.TheVariants as operand
use Rattle.ir_tree.specs.declared.operand.Reg.{Reg}
use Rattle.ir_tree.specs.declared.rule.Rule.{Rule}
use Rattle.ir_tree.specs.declared.rule.Rule.TheVariants.{TypeMismatch, NotAvailable, PhiEdges, PhiPlace, EntryBranch, Index, Cast, CaseTwice}
use Rattle.ir_tree.specs.Edited.{argument_edited, with_operands}
use Rattle.ir_meaning.specs.Refine.{Naming}
use Rattle.ir_meaning.specs.Rename.{argument_under, block_under, edge_under, end_under, line_under, operand_under, phi_under}
use Rattle.merge_meaning.specs.Globals.{function_under, initial_under, initials_under, named_by, variable_under}
use Rattle.merge_meaning.specs.Laws.{NamesKeepForms, NamesKeepSoundness}
use Rattle.merge_meaning.proofs.Once.{mapped}
use Rattle.merge_meaning.proofs.Runs.{init_fits}

-- ---- lists of changed elements

map_square : {A B C D : Type 0} (h : A → B) (m : A → C) (k : C → D) (g : B → D) → ((x : A) → g (h x) ≡ k (m x)) → (xs : List A) → map g (map h xs) ≡ map k (map m xs)
map_square h m k g e [] = refl
map_square h m k g e (x ∷ xs) = λ i. e x i ∷ map_square h m k g e xs i

all_then : {X : Type 0} (P Q : X → Type 0) (xs : List X) → ((x : X) → P x → Q x) → All P xs → All Q xs
all_then P Q xs f h = λ k d lt. f (get_or xs k d) (h k d lt)

all_along : {X : Type 0} (P : X → Type 0) (xs ys : List X) → xs ≡ ys → All P xs → All P ys
all_along P xs ys e h = subst (All P) e h

counted : {A : Type 0} (p q : A → Bool) → ((x : A) → p x ≡ q x) → (xs : List A) → count_by p xs ≡ count_by q xs
counted p q e xs = λ i. count_by (λ x. e x i) xs

count_square : {A B : Type 0} (f : A → B) (p : B → Bool) (xs : List A) → count_by p (map f xs) ≡ count_by (λ x. p (f x)) xs
count_square f p [] = refl
count_square f p (x ∷ xs) =
    sum_by-cons (λ y. cond (p y) 1 0) (f x) (map f xs) ∙ ap (λ n. cond (p (f x)) 1 0 + n) (count_square f p xs) ∙ sym (sum_by-cons (λ z. cond (p (f z)) 1 0) x xs)

-- ---- functions

abbrev pub item_under : Naming → Item → Item
item_under t (phi_item b phi) = phi_item b (phi_under t phi)
item_under t (line_item b k l) = line_item b k (line_under t l)
item_under t (end_item b e) = end_item b (end_under t e)

module _ (t : Naming) where
  abbrev instr_under : Instr → Instr
  instr_under i = with_operands (operand_under t) i

  -- ---- items

  lines_same : (b k : ℕ) (ls : List Line) → lines_from b k (map (line_under t) ls) ≡ map (item_under t) (lines_from b k ls)
  lines_same b k [] = refl
  lines_same b k (l ∷ ls) = ap (λ (is : List Item). line_item b k (line_under t l) ∷ is) (lines_same b (suc k) ls)

  block_items_same : (b : ℕ) (block : Block) → block_items b (block_under t block) ≡ map (item_under t) (block_items b block)
  block_items_same b block =
      (λ i. map_square (phi_under t) (phi_item b) (item_under t) (phi_item b) (λ p. refl) block.phis i ++ (lines_same b 0 block.lines i ++ end_item b (end_under t block.end) ∷ []))
      ∙ ap (λ (is : List Item). map (item_under t) (map (phi_item b) block.phis) ++ is) (sym (map-append (item_under t) (lines_from b 0 block.lines) (end_item b block.end ∷ [])))
      ∙ sym (map-append (item_under t) (map (phi_item b) block.phis) (lines_from b 0 block.lines ++ end_item b block.end ∷ []))

  items_from_same : (b : ℕ) (bs : List Block) → items_from b (map (block_under t) bs) ≡ map (item_under t) (items_from b bs)
  items_from_same b [] = refl
  items_from_same b (block ∷ bs) =
      (λ i. block_items_same b block i ++ items_from_same (suc b) bs i) ∙ sym (map-append (item_under t) (block_items b block) (items_from (suc b) bs))

  pub items_same : (f : Function) → items (function_under t f) ≡ map (item_under t) (items f)
  items_same f = items_from_same 0 f.blocks

  -- ---- what items read

  taken_same : (reg : Reg) (es : List Incoming) → taken_as reg (map (edge_under t) es) ≡ map (argument_under t) (taken_as reg es)
  taken_same reg es = map_square (edge_under t) (λ e. typed reg e.value) (argument_under t) (λ e. typed reg e.value) (λ e. refl) es

  reads_same : (i : Instr) → reads (instr_under i) ≡ map (argument_under t) (reads i)
  reads_same (kind.Binary op flags width left right) = refl
  reads_same (kind.Icmp predicate reg left right) = refl
  reads_same (kind.Cast op from value to) = refl
  reads_same (kind.Select condition if_true if_false) = refl
  reads_same (kind.Freeze reg value) = refl
  reads_same (kind.Alloca shape align) = refl
  reads_same (kind.Load reg address align) = refl
  reads_same (kind.Store reg value address align) = refl
  reads_same (kind.Address inbounds shape base indices) = refl
  reads_same (kind.Call result callee arguments) = refl
  reads_same (kind.Phi reg incoming) = refl

  phi_reads_same : (i : Instr) → phi_reads (instr_under i) ≡ map (argument_under t) (phi_reads i)
  phi_reads_same (kind.Binary op flags width left right) = refl
  phi_reads_same (kind.Icmp predicate reg left right) = refl
  phi_reads_same (kind.Cast op from value to) = refl
  phi_reads_same (kind.Select condition if_true if_false) = refl
  phi_reads_same (kind.Freeze reg value) = refl
  phi_reads_same (kind.Alloca shape align) = refl
  phi_reads_same (kind.Load reg address align) = refl
  phi_reads_same (kind.Store reg value address align) = refl
  phi_reads_same (kind.Address inbounds shape base indices) = refl
  phi_reads_same (kind.Call result callee arguments) = refl
  phi_reads_same (kind.Phi reg incoming) = taken_same reg incoming

  end_reads_same : (e : Terminator) → end_reads (end_under t e) ≡ map (argument_under t) (end_reads e)
  end_reads_same (Return None) = refl
  end_reads_same (Return (Some a)) = refl
  end_reads_same (Jump target) = refl
  end_reads_same (Branch condition if_true if_false) = refl
  end_reads_same (Switch width value default cases) = refl
  end_reads_same Unreachable = refl

  pub operands_same : (item : Item) → operands (item_under t item) ≡ map (argument_under t) (operands item)
  operands_same (phi_item b phi) = taken_same phi.reg phi.incoming
  operands_same (line_item b k l) = (λ i. reads_same l.instr i ++ phi_reads_same l.instr i) ∙ sym (map-append (argument_under t) (reads l.instr) (phi_reads l.instr))
  operands_same (end_item b e) = end_reads_same e

  taken_from_same : (i : Instr) → taken (instr_under i) ≡ map (edge_under t) (taken i)
  taken_from_same (kind.Binary op flags width left right) = refl
  taken_from_same (kind.Icmp predicate reg left right) = refl
  taken_from_same (kind.Cast op from value to) = refl
  taken_from_same (kind.Select condition if_true if_false) = refl
  taken_from_same (kind.Freeze reg value) = refl
  taken_from_same (kind.Alloca shape align) = refl
  taken_from_same (kind.Load reg address align) = refl
  taken_from_same (kind.Store reg value address align) = refl
  taken_from_same (kind.Address inbounds shape base indices) = refl
  taken_from_same (kind.Call result callee arguments) = refl
  taken_from_same (kind.Phi reg incoming) = refl

  entries_same : (item : Item) → entries (item_under t item) ≡ map (edge_under t) (entries item)
  entries_same (phi_item b phi) = refl
  entries_same (line_item b k l) = taken_from_same l.instr
  entries_same (end_item b e) = refl

  -- ---- what it defines

  phi_locals_same : (ps : List Phi) → map (λ p. p.local) (map (phi_under t) ps) ≡ map (λ p. p.local) ps
  phi_locals_same [] = refl
  phi_locals_same (p ∷ ps) = ap (λ (xs : List ℕ). p.local ∷ xs) (phi_locals_same ps)

  results_same : (ls : List Line) → results (map (line_under t) ls) ≡ results ls
  results_same [] = refl
  results_same (l ∷ ls) = ap (λ (xs : List ℕ). cons_option l.local xs) (results_same ls)

  definitions_same : (b : Block) → definitions (block_under t b) ≡ definitions b
  definitions_same b = λ i. phi_locals_same b.phis i ++ results_same b.lines i

  all_definitions_same : (bs : List Block) → flat_map definitions (map (block_under t) bs) ≡ flat_map definitions bs
  all_definitions_same [] = refl
  all_definitions_same (b ∷ bs) = λ i. definitions_same b i ++ all_definitions_same bs i

  locals_same : (f : Function) → locals (function_under t f) ≡ locals f
  locals_same f = ap (λ (xs : List ℕ). parameters f ++ xs) (all_definitions_same f.blocks)

  block_numbers_same : (bs : List Block) → map (λ b. b.number) (map (block_under t) bs) ≡ map (λ b. b.number) bs
  block_numbers_same [] = refl
  block_numbers_same (b ∷ bs) = ap (λ (xs : List ℕ). b.number ∷ xs) (block_numbers_same bs)

  numbers_same : (f : Function) → numbers (function_under t f) ≡ numbers f
  numbers_same f = block_numbers_same f.blocks

  -- ---- types

  result_type_same : (i : Instr) → result_type (instr_under i) ≡ result_type i
  result_type_same (kind.Binary op flags width left right) = refl
  result_type_same (kind.Icmp predicate reg left right) = refl
  result_type_same (kind.Cast op from value to) = refl
  result_type_same (kind.Select condition if_true if_false) = refl
  result_type_same (kind.Freeze reg value) = refl
  result_type_same (kind.Alloca shape align) = refl
  result_type_same (kind.Load reg address align) = refl
  result_type_same (kind.Store reg value address align) = refl
  result_type_same (kind.Address inbounds shape base indices) = refl
  result_type_same (kind.Call result callee arguments) = refl
  result_type_same (kind.Phi reg incoming) = refl

  phi_typings_same : (ps : List Phi) → map {B = Typing} (λ p. (p.local, Some p.reg)) (map (phi_under t) ps) ≡ map {B = Typing} (λ p. (p.local, Some p.reg)) ps
  phi_typings_same [] = refl
  phi_typings_same (p ∷ ps) = ap (λ (ts : List Typing). (p.local, Some p.reg) ∷ ts) (phi_typings_same ps)

  line_typings_same : (ls : List Line) → filter_map line_typing (map (line_under t) ls) ≡ filter_map line_typing ls
  line_typings_same [] = refl
  line_typings_same (l ∷ ls) = λ i. cons_option (option_map (λ x. (x, result_type_same l.instr i)) l.local) (line_typings_same ls i)

  block_typings_same : (b : Block) → block_typings (block_under t b) ≡ block_typings b
  block_typings_same b = λ i. phi_typings_same b.phis i ++ line_typings_same b.lines i

  all_typings_same : (bs : List Block) → flat_map block_typings (map (block_under t) bs) ≡ flat_map block_typings bs
  all_typings_same [] = refl
  all_typings_same (b ∷ bs) = λ i. block_typings_same b i ++ all_typings_same bs i

  typings_same : (f : Function) → typings (function_under t f) ≡ typings f
  typings_same f = ap (λ (ts : List Typing). map {B = Typing} (λ p. (p.local, Some p.reg)) f.params ++ ts) (all_typings_same f.blocks)

  type_same : (f : Function) (o : Operand) → type_of (function_under t f) (operand_under t o) ≡ type_of f o
  type_same f (operand.Local x) = ap (λ (ts : List Typing). typing ts x) (typings_same f)
  type_same f (operand.Number width bits) = refl
  type_same f operand.Null = refl
  type_same f (operand.Poison reg) = refl
  type_same f (operand.Symbol symbol offset) = refl

  -- ---- edges

  targets_same : (e : Terminator) → successors (end_under t e) ≡ successors e
  targets_same (Return argument) = refl
  targets_same (Jump target) = refl
  targets_same (Branch condition if_true if_false) = refl
  targets_same (Switch width value default cases) = refl
  targets_same Unreachable = refl

  place_same : (bs : List Block) (n : ℕ) → place (map (block_under t) bs) n ≡ place bs n
  place_same [] n = refl
  place_same (b ∷ bs) n = ap (λ (k : ℕ). if nat_eq b.number n then 0 else suc k) (place_same bs n)

  leading_same : (n p : ℕ) (bs : List Block) → leading n p (map (block_under t) bs) ≡ leading n p bs
  leading_same n p [] = refl
  leading_same n p (b ∷ bs) = λ i. repeated p n (targets_same b.end i) ++ leading_same n (suc p) bs i

  leading_to_same : (bs : List Block) (o : Option Block) → leading_to (map (block_under t) bs) (option_map (block_under t) o) ≡ leading_to bs o
  leading_to_same bs None = refl
  leading_to_same bs (Some b) = leading_same b.number 0 bs

  pub edges_same : (f : Function) (b : ℕ) → edges (function_under t f) b ≡ edges f b
  edges_same f b =
      ap (λ (o : Option Block). leading_to (map (block_under t) f.blocks) o) (slice_get-map (block_under t) f.blocks b) ∙ leading_to_same f.blocks (slice_get f.blocks b)

  -- ---- what is available

  defined_same : (o : Option Block) (x : ℕ) → defined_in (option_map (block_under t) o) x ≡ defined_in o x
  defined_same None x = refl
  defined_same (Some b) x = ap (λ (xs : List ℕ). holds xs x) (definitions_same b)

  defined_in_same : (f : Function) (b x : ℕ) → defined_in (slice_get (function_under t f).blocks b) x ≡ defined_in (slice_get f.blocks b) x
  defined_in_same f b x = ap (λ (o : Option Block). defined_in o x) (slice_get-map (block_under t) f.blocks b) ∙ defined_same (slice_get f.blocks b) x

  availability_same : (f : Function) → availability (function_under t f) ≡ availability f
  availability_same f = λ i. record {
    blocks = length-map f.blocks (block_under t) i;
    size = ap room (locals_same f) i;
    edges = λ b. edges_same f b i;
    out = λ b row x. row x || defined_in_same f b x i;
    fixed = λ b. entry_row b (parameters f);
  }

  available_same : (f : Function) (b x : ℕ) → Available f b x → Available (function_under t f) b x
  available_same f b x h = subst (λ (e : Equations). IsMarked e b x) (sym (availability_same f)) h

  before_same : (o : Option Block) (k x : ℕ) → defined_before (option_map (block_under t) o) k x ≡ defined_before o k x
  before_same None k x = refl
  before_same (Some b) k x =
      λ i. holds (phi_locals_same b.phis i ++ (ap results (take-map (line_under t) k b.lines) ∙ results_same (take k b.lines)) i) x

  available_at_same : (f : Function) (b k x : ℕ) → AvailableAt f b k x → AvailableAt (function_under t f) b k x
  available_at_same f b k x (inl h) = inl (available_same f b x h)
  available_at_same f b k x (inr h) =
      inr (ap (λ (o : Option Block). defined_before o k x) (slice_get-map (block_under t) f.blocks b) ∙ before_same (slice_get f.blocks b) k x ∙ h)

  count_same : (o : Option Block) → line_count (option_map (block_under t) o) ≡ line_count o
  count_same None = refl
  count_same (Some b) = length-map b.lines (line_under t)

  available_at_end_same : (f : Function) (b x : ℕ) → AvailableAtEnd f b x → AvailableAtEnd (function_under t f) b x
  available_at_end_same f b x h =
      subst (λ (k : ℕ). AvailableAt (function_under t f) b k x) (sym (ap line_count (slice_get-map (block_under t) f.blocks b) ∙ count_same (slice_get f.blocks b)))
      (available_at_same f b (line_count (slice_get f.blocks b)) x h)

no_blocks : (t : Naming) (bs : List Block) → map (block_under t) bs ≡ [] → bs ≡ []
no_blocks t [] e = refl
no_blocks t (b ∷ bs) e = absurd cc

module _ (t : Naming) (f : Function) where
  -- ---- formed

  operand_formed : (o : Operand) → OperandFormed f o → OperandFormed (function_under t f) (operand_under t o)
  operand_formed (operand.Local x) h = ap (λ (xs : List ℕ). holds xs x) (locals_same t f) ∙ h
  operand_formed (operand.Number width bits) h = h
  operand_formed operand.Null h = h
  operand_formed (operand.Poison reg) h = h
  operand_formed (operand.Symbol symbol offset) h = h

  argument_formed : (a : Argument) → ArgumentFormed f a → ArgumentFormed (function_under t f) (argument_under t a)
  argument_formed a h = (h.0, operand_formed a.operand h.1)

  block_there : (n : ℕ) → IsBlock f n → IsBlock (function_under t f) n
  block_there n h = ap (λ (xs : List ℕ). holds xs n) (numbers_same t f) ∙ h

  instr_formed : (i : Instr) → InstrFormed i → InstrFormed (with_operands (operand_under t) i)
  instr_formed (kind.Binary op flags width left right) h = h
  instr_formed (kind.Icmp predicate reg left right) h = h
  instr_formed (kind.Cast op from value to) h = h
  instr_formed (kind.Select condition if_true if_false) h = h
  instr_formed (kind.Freeze reg value) h = h
  instr_formed (kind.Alloca shape align) h = h
  instr_formed (kind.Load reg address align) h = h
  instr_formed (kind.Store reg value address align) h = h
  instr_formed (kind.Address inbounds shape base indices) h = h
  instr_formed (kind.Call result callee arguments) h = h
  instr_formed (kind.Phi reg incoming) h = h

  result_formed : (i : Instr) (local : Option ℕ) → ResultFormed i local → ResultFormed (with_operands (operand_under t) i) local
  result_formed (kind.Binary op flags width left right) local h = h
  result_formed (kind.Icmp predicate reg left right) local h = h
  result_formed (kind.Cast op from value to) local h = h
  result_formed (kind.Select condition if_true if_false) local h = h
  result_formed (kind.Freeze reg value) local h = h
  result_formed (kind.Alloca shape align) local h = h
  result_formed (kind.Load reg address align) local h = h
  result_formed (kind.Store reg value address align) local h = h
  result_formed (kind.Address inbounds shape base indices) local h = h
  result_formed (kind.Call None callee arguments) local h = tt
  result_formed (kind.Call (Some reg) callee arguments) local h = h
  result_formed (kind.Phi reg incoming) local h = h

  cases_formed : (e : Terminator) → CasesFormed e → CasesFormed (end_under t e)
  cases_formed (Return argument) h = tt
  cases_formed (Jump target) h = tt
  cases_formed (Branch condition if_true if_false) h = tt
  cases_formed (Switch width value default cases) h = h
  cases_formed Unreachable h = tt

  targets_all : (P Q : ℕ → Type 0) (e : Terminator) → ((n : ℕ) → P n → Q n) → All P (successors e) → All Q (successors (end_under t e))
  targets_all P Q e g h = all_along Q (successors e) (successors (end_under t e)) (sym (targets_same t e)) (all_then P Q (successors e) g h)

  kind_formed : (item : Item) → KindFormed f item → KindFormed (function_under t f) (item_under t item)
  kind_formed (phi_item b phi) h = h
  kind_formed (line_item b k l) h = (instr_formed l.instr h.0, result_formed l.instr l.local h.1)
  kind_formed (end_item b e) h = (cases_formed e h.0, targets_all (IsBlock f) (IsBlock (function_under t f)) e block_there h.1)

  operands_all : (P Q : Argument → Type 0) (item : Item) → ((a : Argument) → P a → Q (argument_under t a)) → All P (operands item) → All Q (operands (item_under t item))
  operands_all P Q item g h =
      all_along Q (map (argument_under t) (operands item)) (operands (item_under t item)) (sym (operands_same t item))
      (All-map Q (argument_under t) (operands item) (all_then P (λ a. Q (argument_under t a)) (operands item) g h))

  entries_all : (P Q : Incoming → Type 0) (item : Item) → ((e : Incoming) → P e → Q (edge_under t e)) → All P (entries item) → All Q (entries (item_under t item))
  entries_all P Q item g h =
      all_along Q (map (edge_under t) (entries item)) (entries (item_under t item)) (sym (entries_same t item))
      (All-map Q (edge_under t) (entries item) (all_then P (λ e. Q (edge_under t e)) (entries item) g h))

  item_formed : (item : Item) → ItemFormed f item → ItemFormed (function_under t f) (item_under t item)
  item_formed item h = record {
    operands = operands_all (ArgumentFormed f) (ArgumentFormed (function_under t f)) item argument_formed h.operands;
    sources = entries_all (λ e. IsBlock f e.from) (λ e. IsBlock (function_under t f) e.from) item (λ e. block_there e.from) h.sources;
    kind = kind_formed item h.kind;
  }

  items_all : (P Q : Item → Type 0) → ((item : Item) → P item → Q (item_under t item)) → All P (items f) → All Q (items (function_under t f))
  items_all P Q g h =
      all_along Q (map (item_under t) (items f)) (items (function_under t f)) (sym (items_same t f))
      (All-map Q (item_under t) (items f) (all_then P (λ item. Q (item_under t item)) (items f) g h))

  formed_under : Formed f → Formed (function_under t f)
  formed_under h = record {
    result = h.result;
    params = h.params;
    once = subst (λ (xs : List ℕ). Distinct xs) (sym (λ i. locals_same t f i ++ numbers_same t f i)) h.once;
    items = items_all (ItemFormed f) (ItemFormed (function_under t f)) item_formed h.items;
    declared = λ none. h.declared (no_blocks t f.blocks none);
  }

  -- ---- 1: types

  has_type : (a : Argument) → HasType f a → HasType (function_under t f) (argument_under t a)
  has_type a h = type_same t f a.operand ∙ h

  line_types : (local : Option ℕ) (i : Instr) → LineTypes local i → LineTypes local (with_operands (operand_under t) i)
  line_types local (kind.Binary op flags width left right) h = tt
  line_types local (kind.Icmp predicate reg left right) h = tt
  line_types local (kind.Cast op from value to) h = tt
  line_types local (kind.Select condition if_true if_false) h = h
  line_types local (kind.Freeze reg value) h = tt
  line_types local (kind.Alloca shape align) h = tt
  line_types local (kind.Load reg address align) h = tt
  line_types local (kind.Store reg value address align) h = tt
  line_types local (kind.Address inbounds shape base indices) h = tt
  line_types local (kind.Call None callee arguments) h = h
  line_types local (kind.Call (Some reg) callee arguments) h = tt
  line_types local (kind.Phi reg incoming) h = tt

  end_types : (e : Terminator) → EndTypes f e → EndTypes (function_under t f) (end_under t e)
  end_types (Return None) h = h
  end_types (Return (Some a)) h = h
  end_types (Jump target) h = tt
  end_types (Branch condition if_true if_false) h = tt
  end_types (Switch width value default cases) h = h
  end_types Unreachable h = tt

  kind_types : (item : Item) → KindTypes f item → KindTypes (function_under t f) (item_under t item)
  kind_types (phi_item b phi) h = tt
  kind_types (line_item b k l) h = line_types l.local l.instr h
  kind_types (end_item b e) h = end_types e h

  -- ---- 2: availability

  there_under : (b k : ℕ) (o : Operand) → IsThere f b k o → IsThere (function_under t f) b k (operand_under t o)
  there_under b k (operand.Local x) h = available_at_same t f b k x h
  there_under b k (operand.Number width bits) h = tt
  there_under b k operand.Null h = tt
  there_under b k (operand.Poison reg) h = tt
  there_under b k (operand.Symbol symbol offset) h = tt

  at_end_under : (b : ℕ) (o : Operand) → IsThereAtEnd f b o → IsThereAtEnd (function_under t f) b (operand_under t o)
  at_end_under b (operand.Local x) h = available_at_end_same t f b x h
  at_end_under b (operand.Number width bits) h = tt
  at_end_under b operand.Null h = tt
  at_end_under b (operand.Poison reg) h = tt
  at_end_under b (operand.Symbol symbol offset) h = tt

  arguments_there : (P Q : Argument → Type 0) (as' bs : List Argument) → bs ≡ map (argument_under t) as' → ((a : Argument) → P a → Q (argument_under t a)) → All P as' → All Q bs
  arguments_there P Q as' bs is g h =
      all_along Q (map (argument_under t) as') bs (sym is) (All-map Q (argument_under t) as' (all_then P (λ a. Q (argument_under t a)) as' g h))

  reads_there : (item : Item) → ReadsThere f item → ReadsThere (function_under t f) (item_under t item)
  reads_there (phi_item b phi) h = tt
  reads_there (line_item b k l) h =
      arguments_there (λ a. IsThere f b k a.operand) (λ a. IsThere (function_under t f) b k a.operand) (reads l.instr) (reads (with_operands (operand_under t) l.instr))
      (reads_same t l.instr) (λ a there. there_under b k a.operand there) h
  reads_there (end_item b e) h =
      arguments_there (λ a. IsThereAtEnd f b a.operand) (λ a. IsThereAtEnd (function_under t f) b a.operand) (end_reads e) (end_reads (end_under t e))
      (end_reads_same t e) (λ a there. at_end_under b a.operand there) h

  entry_there : (e : Incoming) → IsThereAtEnd f (place f.blocks e.from) e.value
      → IsThereAtEnd (function_under t f) (place (function_under t f).blocks e.from) (operand_under t e.value)
  entry_there e h =
      subst (λ (b : ℕ). IsThereAtEnd (function_under t f) b (operand_under t e.value)) (sym (place_same t f.blocks e.from)) (at_end_under (place f.blocks e.from) e.value h)

  entries_there : (item : Item) → EntriesThere f item → EntriesThere (function_under t f) (item_under t item)
  entries_there item h =
      entries_all (λ e. IsThereAtEnd f (place f.blocks e.from) e.value) (λ e. IsThereAtEnd (function_under t f) (place (function_under t f).blocks e.from) e.value) item entry_there h

  -- ---- 3 and 4: phis

  on_edges : (b : ℕ) (es : List Incoming) → OnEdges f b es → OnEdges (function_under t f) b (map (edge_under t) es)
  on_edges b es h = record {
    each = λ p.
        count_square (edge_under t) (λ e. nat_eq (place (function_under t f).blocks e.from) p) es
        ∙ counted (λ e. nat_eq (place (function_under t f).blocks e.from) p) (λ e. nat_eq (place f.blocks e.from) p) (λ e. ap (λ (q : ℕ). nat_eq q p) (place_same t f.blocks e.from)) es
        ∙ h.each p
        ∙ ap (count_by (λ q. nat_eq q p)) (sym (edges_same t f b));
    equal = λ i j e d at_i at_j same. by i j e d same (mapped (edge_under t) es i e at_i) (mapped (edge_under t) es j d at_j);
  }
    where
      by : (i j : ℕ) (e d : Incoming) → e.from ≡ d.from → ((x : Incoming) × (slice_get es i ≡ Some x) × (edge_under t x ≡ e))
          → ((x : Incoming) × (slice_get es j ≡ Some x) × (edge_under t x ≡ d)) → e.value ≡ d.value
      by i j e d same (x, x_at, x_is) (y, y_at, y_is) =
          ap (λ (z : Incoming). z.value) (sym x_is)
          ∙ ap (operand_under t) (h.equal i j x y x_at y_at (ap (λ (z : Incoming). z.from) x_is ∙ same ∙ ap (λ (z : Incoming). z.from) (sym y_is)))
          ∙ ap (λ (z : Incoming). z.value) y_is

  line_on_edges : (b : ℕ) (i : Instr) → LineOnEdges f b i → LineOnEdges (function_under t f) b (with_operands (operand_under t) i)
  line_on_edges b (kind.Binary op flags width left right) h = tt
  line_on_edges b (kind.Icmp predicate reg left right) h = tt
  line_on_edges b (kind.Cast op from value to) h = tt
  line_on_edges b (kind.Select condition if_true if_false) h = tt
  line_on_edges b (kind.Freeze reg value) h = tt
  line_on_edges b (kind.Alloca shape align) h = tt
  line_on_edges b (kind.Load reg address align) h = tt
  line_on_edges b (kind.Store reg value address align) h = tt
  line_on_edges b (kind.Address inbounds shape base indices) h = tt
  line_on_edges b (kind.Call result callee arguments) h = tt
  line_on_edges b (kind.Phi reg incoming) h = on_edges b incoming h

  has_edges : (item : Item) → HasEdges f item → HasEdges (function_under t f) (item_under t item)
  has_edges (phi_item b phi) h = on_edges b phi.incoming h
  has_edges (line_item b k l) h = line_on_edges b l.instr h
  has_edges (end_item b e) h = tt

  no_phi : (i : Instr) → IsNoPhi i → IsNoPhi (with_operands (operand_under t) i)
  no_phi (kind.Binary op flags width left right) h = tt
  no_phi (kind.Icmp predicate reg left right) h = tt
  no_phi (kind.Cast op from value to) h = tt
  no_phi (kind.Select condition if_true if_false) h = tt
  no_phi (kind.Freeze reg value) h = tt
  no_phi (kind.Alloca shape align) h = tt
  no_phi (kind.Load reg address align) h = tt
  no_phi (kind.Store reg value address align) h = tt
  no_phi (kind.Address inbounds shape base indices) h = tt
  no_phi (kind.Call result callee arguments) h = tt
  no_phi (kind.Phi reg incoming) h = h

  stands_right : (item : Item) → StandsRight item → StandsRight (item_under t item)
  stands_right (phi_item b phi) h = h
  stands_right (line_item b k l) h = no_phi l.instr h
  stands_right (end_item b e) h = tt

  -- ---- 5 to 8: edges to the entry, indices, casts and cases

  leaves_entry : (item : Item) → LeavesEntry f item → LeavesEntry (function_under t f) (item_under t item)
  leaves_entry (phi_item b phi) h = tt
  leaves_entry (line_item b k l) h = tt
  leaves_entry (end_item b e) h =
      targets_all (λ n. place f.blocks n ≡ 0 → ⊥) (λ n. place (function_under t f).blocks n ≡ 0 → ⊥) e (λ n away here. away (sym (place_same t f.blocks n) ∙ here)) h

  follow : (form : Form) (as' : List Argument) → Follow form as' → Follow form (map (argument_edited (operand_under t)) as')
  follow form [] h = tt
  follow (int w) (a ∷ more) h = h
  follow pointer (a ∷ more) h = h
  follow (array n of) (a ∷ more) h = (h.0, follow of more h.1)
  follow (structure packed parts) (a ∷ more) (k, form, is, part, rest) = (k, form, ap (argument_under t) is, part, follow form more rest)

  indices_follow : (form : Form) (as' : List Argument) → IndicesFollow form as' → IndicesFollow form (map (argument_edited (operand_under t)) as')
  indices_follow form [] h = tt
  indices_follow form (a ∷ more) h = (h.0, follow form more h.1)

  line_follows : (i : Instr) → LineFollows i → LineFollows (with_operands (operand_under t) i)
  line_follows (kind.Binary op flags width left right) h = tt
  line_follows (kind.Icmp predicate reg left right) h = tt
  line_follows (kind.Cast op from value to) h = tt
  line_follows (kind.Select condition if_true if_false) h = tt
  line_follows (kind.Freeze reg value) h = tt
  line_follows (kind.Alloca shape align) h = tt
  line_follows (kind.Load reg address align) h = tt
  line_follows (kind.Store reg value address align) h = tt
  line_follows (kind.Address inbounds shape base indices) h = indices_follow shape indices h
  line_follows (kind.Call result callee arguments) h = tt
  line_follows (kind.Phi reg incoming) h = tt

  line_casts : (i : Instr) → LineCasts i → LineCasts (with_operands (operand_under t) i)
  line_casts (kind.Binary op flags width left right) h = tt
  line_casts (kind.Icmp predicate reg left right) h = h
  line_casts (kind.Cast op from value to) h = h
  line_casts (kind.Select condition if_true if_false) h = tt
  line_casts (kind.Freeze reg value) h = h
  line_casts (kind.Alloca shape align) h = tt
  line_casts (kind.Load reg address align) h = tt
  line_casts (kind.Store reg value address align) h = tt
  line_casts (kind.Address inbounds shape base indices) h = tt
  line_casts (kind.Call result callee arguments) h = tt
  line_casts (kind.Phi reg incoming) h = tt

  end_differs : (e : Terminator) → EndDiffers e → EndDiffers (end_under t e)
  end_differs (Return argument) h = tt
  end_differs (Jump target) h = tt
  end_differs (Branch condition if_true if_false) h = tt
  end_differs (Switch width value default cases) h = h
  end_differs Unreachable h = tt

  -- ---- all of them

  keeps_under : (rule : Rule) (item : Item) → Keeps f rule item → Keeps (function_under t f) rule (item_under t item)
  keeps_under TypeMismatch item h = (operands_all (HasType f) (HasType (function_under t f)) item has_type h.0, kind_types item h.1)
  keeps_under NotAvailable item h = (reads_there item h.0, entries_there item h.1)
  keeps_under PhiEdges item h = has_edges item h
  keeps_under PhiPlace item h = stands_right item h
  keeps_under EntryBranch item h = leaves_entry item h
  keeps_under Index (phi_item b phi) h = tt
  keeps_under Index (line_item b k l) h = line_follows l.instr h
  keeps_under Index (end_item b e) h = tt
  keeps_under Cast (phi_item b phi) h = tt
  keeps_under Cast (line_item b k l) h = line_casts l.instr h
  keeps_under Cast (end_item b e) h = tt
  keeps_under CaseTwice (phi_item b phi) h = tt
  keeps_under CaseTwice (line_item b k l) h = tt
  keeps_under CaseTwice (end_item b e) h = end_differs e h

  sound_under : Sound f → Sound (function_under t f)
  sound_under h = record {
    formed = formed_under h.formed;
    rules = λ rule. items_all (Keeps f rule) (Keeps (function_under t f) rule) (keeps_under rule) (h.rules rule);
  }

-- ---- variables

constant_under : (t : Naming) (o : Operand) → ConstantFormed o → ConstantFormed (operand_under t o)
constant_under t (operand.Local x) h = h
constant_under t (operand.Number width bits) h = h
constant_under t operand.Null h = h
constant_under t (operand.Poison reg) h = h
constant_under t (operand.Symbol symbol offset) h = h

mutual
  initial_same : (t : Naming) (v : Initial) → initial_operands (initial_under t v) ≡ map (operand_under t) (initial_operands v)
  initial_same t (plain o) = refl
  initial_same t zeros = refl
  initial_same t (bytes text) = refl
  initial_same t (elements parts) = initials_same t parts
  initial_same t (members packed parts) = initials_same t parts

  initials_same : (t : Naming) (vs : Initials) → all_operands (initials_under t vs) ≡ map (operand_under t) (all_operands vs)
  initials_same t no_initials = refl
  initials_same t (initial f v vs) = (λ i. initial_same t v i ++ initials_same t vs i) ∙ sym (map-append (operand_under t) (initial_operands v) (all_operands vs))

pub init_same : (t : Naming) (init : Option Initial) → init_operands (option_map (initial_under t) init) ≡ map (operand_under t) (init_operands init)
init_same t None = refl
init_same t (Some v) = initial_same t v

no_init : (t : Naming) (init : Option Initial) → option_map (initial_under t) init ≡ None → init ≡ None
no_init t None e = refl
no_init t (Some v) e = absurd (cc e)

variable_formed : (t : Naming) (v : Variable) → VariableFormed v → VariableFormed (variable_under t v)
variable_formed t v h = record {
  shape = h.shape;
  align = h.align;
  operands = all_along ConstantFormed (map (operand_under t) (init_operands v.init)) (init_operands (option_map (initial_under t) v.init)) (sym (init_same t v.init))
      (All-map ConstantFormed (operand_under t) (init_operands v.init)
      (all_then ConstantFormed (λ o. ConstantFormed (operand_under t o)) (init_operands v.init) (constant_under t) h.operands));
  declared = λ none. h.declared (no_init t v.init none);
}

-- ---- global values

pub names_keep_soundness : NamesKeepSoundness
names_keep_soundness name (global.Function f) h = sound_under (named_by name) f h
names_keep_soundness name (global.Variable v) h = init_fits (named_by name) v.shape v.init h

pub names_keep_forms : NamesKeepForms
names_keep_forms name (global.Function f) h = formed_under (named_by name) f h
names_keep_forms name (global.Variable v) h = variable_formed (named_by name) v h
