-- Items of a sound function that stand in another one, edited: they are formed there and keep the rules.
use Rattle.std.proofs.Common.{◌≡◌, ℕ, zero, suc, ◌+◌, ◌<◌, List, [], ◌∷◌, ◌++◌, Some, map, length, refl, sym, ◌∙◌, subst, arith, append-nil}
use Rattle.std.specs.Prelude.{All, slice_get}
use Rattle.std.proofs.lemmas.List.Elements.{All-append, All-cons, All-head, All-map, All-nil, All-tail, All-weaker}
use Rattle.ir_tree.specs.Flow.{successors}
use Rattle.ir_tree.specs.Formed.{ArgumentFormed, IsBlock, ItemFormed}
use Rattle.ir_tree.specs.Items.{Item, phi_item, line_item, end_item, block_items, end_reads, items_from, lines_from, phi_reads, reads, taken, typed}
use Rattle.ir_tree.specs.Rules.{EndTypes, HasType, IsNoPhi, IsThere, IsThereAtEnd, Keeps, OnEdges, place}
use Rattle.ir_tree.specs.declared.block.Block.{Block}
use Rattle.ir_tree.specs.declared.block.Terminator.{Terminator}
use Rattle.ir_tree.specs.declared.function.Function.{Function}
use Rattle.ir_tree.specs.declared.instr.Incoming.{Incoming}
use Rattle.ir_tree.specs.declared.instr.Line.{Line}
use Rattle.ir_tree.specs.declared.instr.Phi.{Phi}
use Rattle.ir_tree.specs.declared.operand.Argument.{Argument}
use Rattle.ir_tree.specs.declared.operand.Operand.{Operand}
use Rattle.ir_tree.specs.declared.operand.Reg.{Reg}
use Rattle.ir_tree.specs.declared.rule.Rule.{Rule}
use Rattle.ir_tree.specs.declared.rule.Rule.TheVariants.{TypeMismatch, NotAvailable, PhiEdges, PhiPlace, EntryBranch, Index, Cast, CaseTwice}
use Rattle.ir_tree.specs.Edited.{argument_edited, end_edited, incoming_edited, line_edited}
use Rattle.ir_meaning.proofs.Everywhere.{all_back, all_front, all_unmapped}
use Rattle.inline_site.proofs.EditedItems.{IsConstant, cases_formed, end_differs, end_reads_edited, instr_formed, line_casts, line_follows, line_types, no_edges, no_phi, no_phi_reads, no_taken, reads_edited, result_formed, targets_edited}

-- the item is formed and keeps each rule
abbrev pub IsRight : Function → Item → Type 0
IsRight f item = ItemFormed f item × ((rule : Rule) → Keeps f rule item)

-- the argument is formed, has its type, and is there
abbrev pub Given : Function → (Operand → Type 0) → Argument → Type 0
Given f there a = ArgumentFormed f a × HasType f a × there a.operand

-- ---- items by the places of their blocks

pub items_at : (P : Item → Type 0) (s : ℕ) (bs : List Block) → All P (items_from s bs) → (i : ℕ) (b : Block) → slice_get bs i ≡ Some b → All P (block_items (s + i) b)
items_at P s [] h i b at = absurd cc
items_at P s (x ∷ bs) h zero b at =
    let same : x ≡ b = cc at in
    let front : All P (block_items s x) = all_front P (block_items s x) (items_from (suc s) bs) h in
    subst (λ (n : ℕ). All P (block_items n b)) (omega arith) (subst (λ (y : Block). All P (block_items s y)) same front)
items_at P s (x ∷ bs) h (suc i) b at =
    subst (λ (n : ℕ). All P (block_items n b)) (omega arith) (items_at P (suc s) bs (all_back P (block_items s x) (items_from (suc s) bs) h) i b at)

pub at_items : (P : Item → Type 0) (s : ℕ) (bs : List Block) → ((i : ℕ) (b : Block) → slice_get bs i ≡ Some b → All P (block_items (s + i) b)) → All P (items_from s bs)
at_items P s [] h = All-nil P
at_items P s (x ∷ bs) h =
    All-append P (block_items s x) (items_from (suc s) bs) (subst (λ (n : ℕ). All P (block_items n x)) (omega arith) (h 0 x refl))
    (at_items P (suc s) bs (λ i b at. subst (λ (n : ℕ). All P (block_items n b)) (omega arith) (h (suc i) b at)))

-- the items of a block are its phis, its lines and its terminator
pub record InBlock (P : Item → Type 0) (i : ℕ) (b : Block) : Type 0 where
  pub phis : All P (map (phi_item i) b.phis)
  pub lines : All P (lines_from i 0 b.lines)
  pub end : P (end_item i b.end)

pub in_block : (P : Item → Type 0) (i : ℕ) (b : Block) → All P (block_items i b) → InBlock P i b
in_block P i b h =
    let rest : All P (lines_from i 0 b.lines ++ end_item i b.end ∷ []) = all_back P (map (phi_item i) b.phis) (lines_from i 0 b.lines ++ end_item i b.end ∷ []) h in
    record {
      phis = all_front P (map (phi_item i) b.phis) (lines_from i 0 b.lines ++ end_item i b.end ∷ []) h;
      lines = all_front P (lines_from i 0 b.lines) (end_item i b.end ∷ []) rest;
      end = All-head P (end_item i b.end) [] (all_back P (lines_from i 0 b.lines) (end_item i b.end ∷ []) rest);
    }

pub of_block : (P : Item → Type 0) (i : ℕ) (b : Block) → InBlock P i b → All P (block_items i b)
of_block P i b h =
    All-append P (map (phi_item i) b.phis) (lines_from i 0 b.lines ++ end_item i b.end ∷ []) h.phis
    (All-append P (lines_from i 0 b.lines) (end_item i b.end ∷ []) h.lines (All-cons P (end_item i b.end) [] h.end (All-nil P)))

-- ---- lines in two parts

pub lines_front : (P : Item → Type 0) (b k : ℕ) (ls ms : List Line) → All P (lines_from b k (ls ++ ms)) → All P (lines_from b k ls)
lines_front P b k [] ms h = All-nil P
lines_front P b k (l ∷ ls) ms h =
    All-cons P (line_item b k l) (lines_from b (suc k) ls) (All-head P (line_item b k l) (lines_from b (suc k) (ls ++ ms)) h)
    (lines_front P b (suc k) ls ms (All-tail P (line_item b k l) (lines_from b (suc k) (ls ++ ms)) h))

pub lines_back : (P : Item → Type 0) (b k : ℕ) (ls ms : List Line) → All P (lines_from b k (ls ++ ms)) → All P (lines_from b (k + length ls) ms)
lines_back P b k [] ms h = subst (λ (n : ℕ). All P (lines_from b n ms)) (omega arith) h
lines_back P b k (l ∷ ls) ms h =
    subst (λ (n : ℕ). All P (lines_from b n ms)) (omega arith) (lines_back P b (suc k) ls ms (All-tail P (line_item b k l) (lines_from b (suc k) (ls ++ ms)) h))

-- ---- edited

all_edited : (P Q : Argument → Type 0) (op : Operand → Operand) → ((a : Argument) → P a → Q (argument_edited op a)) → (as' : List Argument) → All P as' → All Q (map (argument_edited op) as')
all_edited P Q op step as' h = All-map Q (argument_edited op) as' (All-weaker P (λ a. Q (argument_edited op a)) step as' h)

module _ (f g : Function) (number : ℕ → ℕ) (op : Operand → Operand) (fixed : (o : Operand) → IsConstant o → op o ≡ o) where
  -- an instruction all of whose operands are there
  pub line_now : (i k j n : ℕ) (l : Line) → ((a : Argument) → Given f (IsThere f i k) a → Given g (IsThere g j n) (argument_edited op a)) → IsRight f (line_item i k l) → IsRight g (line_item j n (line_edited number op l))
  line_now i k j n l step h = (
    record {
      operands = subst (λ (as' : List Argument). All (ArgumentFormed g) as') (sym all) (All-weaker (Given g (IsThere g j n)) (ArgumentFormed g) (λ a t. t.0) (map (argument_edited op) (reads l.instr)) given);
      sources = subst (λ (es : List Incoming). All (λ e. IsBlock g e.from) es) (sym nothing) (All-nil (λ e. IsBlock g e.from));
      kind = (instr_formed number op l.instr h.0.kind.0, result_formed number op l.instr l.local h.0.kind.1);
    },
    keeps,
  )
    where
      no : IsNoPhi l.instr
      no = h.1 PhiPlace

      no' : IsNoPhi (line_edited number op l).instr
      no' = no_phi number op l.instr no

      all : reads (line_edited number op l).instr ++ phi_reads (line_edited number op l).instr ≡ map (argument_edited op) (reads l.instr)
      all = (λ k. reads_edited number op l.instr k ++ no_phi_reads (line_edited number op l).instr no' k) ∙ append-nil (map (argument_edited op) (reads l.instr))

      nothing : taken (line_edited number op l).instr ≡ []
      nothing = no_taken (line_edited number op l).instr no'

      given : All (Given g (IsThere g j n)) (map (argument_edited op) (reads l.instr))
      given =
          let formed : All (ArgumentFormed f) (reads l.instr) = all_front (ArgumentFormed f) (reads l.instr) (phi_reads l.instr) h.0.operands in
          let types : All (HasType f) (reads l.instr) = all_front (HasType f) (reads l.instr) (phi_reads l.instr) (h.1 TypeMismatch).0 in
          let there : All (λ a. IsThere f i k a.operand) (reads l.instr) = (h.1 NotAvailable).0 in
          all_edited (Given f (IsThere f i k)) (Given g (IsThere g j n)) op step (reads l.instr) (λ m d lt. (formed m d lt, types m d lt, there m d lt))

      keeps : (rule : Rule) → Keeps g rule (line_item j n (line_edited number op l))
      keeps TypeMismatch = (
        subst (λ (as' : List Argument). All (HasType g) as') (sym all) (All-weaker (Given g (IsThere g j n)) (HasType g) (λ a t. t.1) (map (argument_edited op) (reads l.instr)) given),
        line_types number op l.local l.instr (h.1 TypeMismatch).1,
      )
      keeps NotAvailable = (
        subst (λ (as' : List Argument). All (λ a. IsThere g j n a.operand) as') (sym (reads_edited number op l.instr))
            (All-weaker (Given g (IsThere g j n)) (λ a. IsThere g j n a.operand) (λ a t. t.2) (map (argument_edited op) (reads l.instr)) given),
        subst (λ (es : List Incoming). All (λ e. IsThereAtEnd g (place g.blocks e.from) e.value) es) (sym nothing) (All-nil (λ e. IsThereAtEnd g (place g.blocks e.from) e.value)),
      )
      keeps PhiEdges = no_edges g j (line_edited number op l).instr no'
      keeps PhiPlace = no'
      keeps EntryBranch = tt
      keeps Index = line_follows number op fixed l.instr (h.1 Index)
      keeps Cast = line_casts number op l.instr (h.1 Cast)
      keeps CaseTwice = tt

  -- some lines, from the line k on, that stand in another block from the line n on
  pub lines_now : (i k j n : ℕ) (ls : List Line) → ((m : ℕ) → m < length ls → (a : Argument) → Given f (IsThere f i (k + m)) a → Given g (IsThere g j (n + m)) (argument_edited op a))
      → All (IsRight f) (lines_from i k ls) → All (IsRight g) (lines_from j n (map (line_edited number op) ls))
  lines_now i k j n [] step h = All-nil (IsRight g)
  lines_now i k j n (l ∷ ls) step h =
      All-cons (IsRight g) (line_item j n (line_edited number op l)) (lines_from j (suc n) (map (line_edited number op) ls))
      (line_now i k j n l (λ a given. subst (λ (m : ℕ). Given g (IsThere g j m) (argument_edited op a)) n_is (step 0 (omega arith) a (subst (λ (m : ℕ). Given f (IsThere f i m) a) k_is given)))
      (All-head (IsRight f) (line_item i k l) (lines_from i (suc k) ls) h))
      (lines_now i (suc k) j (suc n) ls (λ m lt a given.
      subst (λ (o : ℕ). Given g (IsThere g j o) (argument_edited op a)) (more_is n m) (step (suc m) (omega (arith, lt)) a (subst (λ (o : ℕ). Given f (IsThere f i o) a) (sym (more_is k m)) given)))
      (All-tail (IsRight f) (line_item i k l) (lines_from i (suc k) ls) h))
    where
      k_is : k ≡ k + 0
      k_is = omega arith

      n_is : n + 0 ≡ n
      n_is = omega arith

      more_is : (p m : ℕ) → p + suc m ≡ suc p + m
      more_is p m = omega arith

  -- a terminator
  pub end_now : (i j : ℕ) (t : Terminator) → ((a : Argument) → Given f (IsThereAtEnd f i) a → Given g (IsThereAtEnd g j) (argument_edited op a))
      → ((n : ℕ) → IsBlock f n × (place f.blocks n ≡ 0 → ⊥) → IsBlock g (number n) × (place g.blocks (number n) ≡ 0 → ⊥)) → EndTypes g (end_edited number op t)
      → IsRight f (end_item i t) → IsRight g (end_item j (end_edited number op t))
  end_now i j t step leads types h = (
    record {
      operands = subst (λ (as' : List Argument). All (ArgumentFormed g) as') (sym all) (All-weaker (Given g (IsThereAtEnd g j)) (ArgumentFormed g) (λ a t. t.0) (map (argument_edited op) (end_reads t)) given);
      sources = All-nil (λ e. IsBlock g e.from);
      kind = (cases_formed number op t h.0.kind.0, subst (λ (l : List ℕ). All (IsBlock g) l) (sym (targets_edited number op t)) (All-map (IsBlock g) number (successors t) (λ k d lt. (led k d lt).0)));
    },
    keeps,
  )
    where
      all : end_reads (end_edited number op t) ≡ map (argument_edited op) (end_reads t)
      all = end_reads_edited number op t

      given : All (Given g (IsThereAtEnd g j)) (map (argument_edited op) (end_reads t))
      given =
          let formed : All (ArgumentFormed f) (end_reads t) = h.0.operands in
          let typed : All (HasType f) (end_reads t) = (h.1 TypeMismatch).0 in
          let there : All (λ a. IsThereAtEnd f i a.operand) (end_reads t) = (h.1 NotAvailable).0 in
          all_edited (Given f (IsThereAtEnd f i)) (Given g (IsThereAtEnd g j)) op step (end_reads t) (λ m d lt. (formed m d lt, typed m d lt, there m d lt))

      led : All (λ n. IsBlock g (number n) × (place g.blocks (number n) ≡ 0 → ⊥)) (successors t)
      led =
          let blocks : All (IsBlock f) (successors t) = h.0.kind.1 in
          let others : All (λ n. place f.blocks n ≡ 0 → ⊥) (successors t) = h.1 EntryBranch in
          All-weaker (λ n. IsBlock f n × (place f.blocks n ≡ 0 → ⊥)) (λ n. IsBlock g (number n) × (place g.blocks (number n) ≡ 0 → ⊥)) leads (successors t) (λ k d lt. (blocks k d lt, others k d lt))

      keeps : (rule : Rule) → Keeps g rule (end_item j (end_edited number op t))
      keeps TypeMismatch = (subst (λ (as' : List Argument). All (HasType g) as') (sym all) (All-weaker (Given g (IsThereAtEnd g j)) (HasType g) (λ a t. t.1) (map (argument_edited op) (end_reads t)) given), types)
      keeps NotAvailable = (
        subst (λ (as' : List Argument). All (λ a. IsThereAtEnd g j a.operand) as') (sym all) (All-weaker (Given g (IsThereAtEnd g j)) (λ a. IsThereAtEnd g j a.operand) (λ a t. t.2) (map (argument_edited op) (end_reads t)) given),
        All-nil (λ e. IsThereAtEnd g (place g.blocks e.from) e.value),
      )
      keeps PhiEdges = tt
      keeps PhiPlace = tt
      keeps EntryBranch = subst (λ (l : List ℕ). All (λ n. place g.blocks n ≡ 0 → ⊥) l) (sym (targets_edited number op t)) (All-map (λ n. place g.blocks n ≡ 0 → ⊥) number (successors t) (λ k d lt. (led k d lt).1))
      keeps Index = tt
      keeps Cast = tt
      keeps CaseTwice = end_differs number op t (h.1 CaseTwice)

  -- a phi whose entries name other blocks
  module _ (block : ℕ → ℕ) where
    abbrev Took : Reg → Incoming → Type 0
    Took reg e = IsBlock f e.from × Given f (IsThereAtEnd f (place f.blocks e.from)) (typed reg e.value)

    abbrev Takes : Reg → Incoming → Type 0
    Takes reg e = IsBlock g e.from × Given g (IsThereAtEnd g (place g.blocks e.from)) (typed reg e.value)

    pub phi_now : (i j : ℕ) (p : Phi) (local : ℕ) → ((e : Incoming) → IsBlock f e.from × Given f (IsThereAtEnd f (place f.blocks e.from)) (typed p.reg e.value)
        → IsBlock g (block e.from) × Given g (IsThereAtEnd g (place g.blocks (block e.from))) (typed p.reg (op e.value)))
        → (j ≡ 0 → ⊥) → OnEdges g j (map (incoming_edited block op) p.incoming) → IsRight f (phi_item i p)
        → IsRight g (phi_item j (record { local = local; reg = p.reg; incoming = map (incoming_edited block op) p.incoming }))
    phi_now i j p local step inner edges h = (
      record {
        operands = All-map (ArgumentFormed g) (λ e. typed p.reg e.value) (map (incoming_edited block op) p.incoming) (All-weaker (Takes p.reg) (λ e. ArgumentFormed g (typed p.reg e.value)) (λ e t. t.1.0) (map (incoming_edited block op) p.incoming) takes);
        sources = All-weaker (Takes p.reg) (λ e. IsBlock g e.from) (λ e t. t.0) (map (incoming_edited block op) p.incoming) takes;
        kind = h.0.kind;
      },
      keeps,
    )
      where
        takes : All (Takes p.reg) (map (incoming_edited block op) p.incoming)
        takes =
            let sources : All (λ e. IsBlock f e.from) p.incoming = h.0.sources in
            let formed : All (λ e. ArgumentFormed f (typed p.reg e.value)) p.incoming = all_unmapped (ArgumentFormed f) (λ e. typed p.reg e.value) p.incoming h.0.operands in
            let types : All (λ e. HasType f (typed p.reg e.value)) p.incoming = all_unmapped (HasType f) (λ e. typed p.reg e.value) p.incoming (h.1 TypeMismatch).0 in
            let there : All (λ e. IsThereAtEnd f (place f.blocks e.from) e.value) p.incoming = (h.1 NotAvailable).1 in
            All-map (Takes p.reg) (incoming_edited block op) p.incoming
            (All-weaker (Took p.reg) (λ e. Takes p.reg (incoming_edited block op e)) step p.incoming (λ k d lt. (sources k d lt, (formed k d lt, types k d lt, there k d lt))))

        keeps : (rule : Rule) → Keeps g rule (phi_item j (record { local = local; reg = p.reg; incoming = map (incoming_edited block op) p.incoming }))
        keeps TypeMismatch = (All-map (HasType g) (λ e. typed p.reg e.value) (map (incoming_edited block op) p.incoming) (All-weaker (Takes p.reg) (λ e. HasType g (typed p.reg e.value)) (λ e t. t.1.1) (map (incoming_edited block op) p.incoming) takes), tt)
        keeps NotAvailable = (tt, All-weaker (Takes p.reg) (λ e. IsThereAtEnd g (place g.blocks e.from) e.value) (λ e t. t.1.2) (map (incoming_edited block op) p.incoming) takes)
        keeps PhiEdges = edges
        keeps PhiPlace = inner
        keeps EntryBranch = tt
        keeps Index = tt
        keeps Cast = tt
        keeps CaseTwice = tt
