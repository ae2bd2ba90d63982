-- A set is closed in a function's blocks exactly where it is closed under the function's uses.
use Rattle.std.proofs.Common.{◌≡◌, ℕ, ◌==◌, ◌||◌, Bool, true, false, cond, List, [], ◌∷◌, ◌++◌, Option, Some, None, refl, sym, ◌∙◌, ap, subst, arith}
use Rattle.std.specs.Prelude.{flat_map}
use Rattle.std.proofs.lemmas.Bool.Decides.{nat_tests}
use Rattle.ir_tree.specs.declared.block.Block.{Block}
use Rattle.ir_tree.specs.declared.block.Terminator.{Terminator}
use Rattle.ir_tree.specs.declared.block.Terminator.TheVariants.{Branch, Jump, Return, Switch, Unreachable}
use Rattle.ir_tree.specs.declared.function.Function.{Function}
use Rattle.ir_tree.specs.declared.instr.Incoming.{Incoming}
use Rattle.ir_tree.specs.declared.instr.Instr.{Instr}
use Rattle.ir_tree.specs.declared.instr.Instr.TheVariants.{Address, Alloca, Binary, Call, Cast, Freeze, Icmp, Load, Phi as StrayPhi, Select, Store}
use Rattle.ir_tree.specs.declared.instr.Line.{Line}
use Rattle.ir_tree.specs.declared.instr.Phi.{Phi}
use Rattle.ir_tree.specs.declared.operand.Argument.{Argument}
use Rattle.ir_tree.specs.declared.operand.Operand.{Operand}
use Rattle.ir_tree.specs.declared.operand.Operand.TheVariants.{Local, Number, Null, Poison, Symbol as Named}
use Rattle.ir_meaning.specs.Needed.{AllKept, EdgesKept, EndReads, IsKept, LinesClosed, PhisKept, UsesKept, is_effect, is_needed, local_kept}
use Rattle.ir_edit.specs.Uses.{block_uses as of_parts, end_uses as of_terminator}
use Rattle.dead_code.specs.declared.uses.Use.{Use}
use Rattle.dead_code.specs.Closure.{AllIn, IsClosedUnder, IsLeastUnder}
use Rattle.dead_code.specs.Least.{AreBlocksClosed, IsBlockClosed, IsLeastClosed}
use Rattle.dead_code.specs.Uses.{arguments_uses, blocks_uses, edges_uses, instr_uses, is_reader, line_uses, named_uses, operand_uses, phi_uses, read_by}

-- ---- the uses of the parts of a block

abbrev phis_uses : List Phi → List Use
phis_uses ps = flat_map phi_uses ps

abbrev lines_uses : List Line → List Use
lines_uses ls = flat_map line_uses ls

abbrev end_uses : Terminator → List Use
end_uses e = of_terminator (operand_uses None) e

abbrev block_uses : Block → List Use
block_uses b = of_parts phi_uses line_uses (operand_uses None) b

-- ---- uses one by one

-- the reader counts: an effect always, a definition where the set has its local
abbrev Counts : (ℕ → Bool) → Option ℕ → Type 0
Counts s None = Unit {0}
Counts s (Some x) = s x ≡ true

-- the set has what is read by the readers that count
abbrev AreRead : (ℕ → Bool) → List Use → Type 0
AreRead s [] = Unit {0}
AreRead s (u ∷ us) = (Counts s u.reader → s u.read ≡ true) × AreRead s us

both : (s : ℕ → Bool) (us vs : List Use) → AreRead s us → AreRead s vs → AreRead s (us ++ vs)
both s [] vs h g = g
both s (u ∷ us) vs h g = (h.0, both s us vs h.1 g)

parts : (s : ℕ → Bool) (us vs : List Use) → AreRead s (us ++ vs) → AreRead s us × AreRead s vs
parts s [] vs h = (tt, h)
parts s (u ∷ us) vs h = let more : AreRead s us × AreRead s vs = parts s us vs h.1 in ((h.0, more.0), more.1)

-- ---- and by their readers

same_number : (x y : ℕ) → (x == y) ≡ true → x ≡ y
same_number x y h = grind (arith, nat_tests)

is_same : (x : ℕ) → (x == x) ≡ true
is_same x = grind (arith, nat_tests)

row_of : (s : ℕ → Bool) (reader : Option ℕ) → Counts s reader → (us : List Use) → AreRead s us → AllIn s (read_by reader us)
row_of s reader h [] g = tt
row_of s reader h (u ∷ us) g = at (row_of s reader h us g.1) (is_reader reader u.reader) refl
  where
    reads : (a b : Option ℕ) → Counts s a → is_reader a b ≡ true → Counts s b
    reads None None h e = tt
    reads (Some x) (Some y) h e = ap s (sym (same_number x y e)) ∙ h
    reads None (Some y) h e = absurd cc
    reads (Some x) None h e = absurd cc

    at : AllIn s (read_by reader us) → (b : Bool) → is_reader reader u.reader ≡ b → AllIn s (cond b (u.read ∷ read_by reader us) (read_by reader us))
    at more true e = (g.0 (reads reader u.reader h e), more)
    at more false e = more

row_part : (s : ℕ → Bool) (b : Bool) (x : ℕ) (xs : List ℕ) → AllIn s (cond b (x ∷ xs) xs) → AllIn s xs
row_part s true x xs h = h.1
row_part s false x xs h = h

row_head : (s : ℕ → Bool) (b : Bool) (x : ℕ) (xs : List ℕ) → b ≡ true → AllIn s (cond b (x ∷ xs) xs) → s x ≡ true
row_head s true x xs e h = h.0
row_head s false x xs e h = absurd cc

all_read : (s : ℕ → Bool) (us : List Use) → AllIn s (read_by None us) → ((x : ℕ) → s x ≡ true → AllIn s (read_by (Some x) us)) → AreRead s us
all_read s [] first rows = tt
all_read s (u ∷ us) first rows = (
  λ counts. this u.reader refl counts,
  all_read s us (row_part s (is_reader None u.reader) u.read (read_by None us) first) (λ x h. row_part s (is_reader (Some x) u.reader) u.read (read_by (Some x) us) (rows x h)),
)
  where
    this : (r : Option ℕ) → u.reader ≡ r → Counts s r → s u.read ≡ true
    this None e counts = row_head s (is_reader None u.reader) u.read (read_by None us) (ap (is_reader None) e) first
    this (Some x) e counts = row_head s (is_reader (Some x) u.reader) u.read (read_by (Some x) us) (ap (is_reader (Some x)) e ∙ is_same x) (rows x counts)

-- ---- what a function reads

to_operand : (s : ℕ → Bool) (r : Option ℕ) (o : Operand) → AreRead s (operand_uses r o) → Counts s r → IsKept s o
to_operand s r (Local x) h c = h.0 c
to_operand s r (Number width bits) h c = tt
to_operand s r Null h c = tt
to_operand s r (Poison reg) h c = tt
to_operand s r (Named symbol offset) h c = tt

of_operand : (s : ℕ → Bool) (r : Option ℕ) (o : Operand) → (Counts s r → IsKept s o) → AreRead s (operand_uses r o)
of_operand s r (Local x) h = (h, tt)
of_operand s r (Number width bits) h = tt
of_operand s r Null h = tt
of_operand s r (Poison reg) h = tt
of_operand s r (Named symbol offset) h = tt

to_arguments : (s : ℕ → Bool) (r : Option ℕ) (as' : List Argument) → AreRead s (arguments_uses r as') → Counts s r → AllKept s as'
to_arguments s r [] h c = tt
to_arguments s r (a ∷ more) h c =
    let p : AreRead s (operand_uses r a.operand) × AreRead s (arguments_uses r more) = parts s (operand_uses r a.operand) (arguments_uses r more) h in
    (to_operand s r a.operand p.0 c, to_arguments s r more p.1 c)

of_arguments : (s : ℕ → Bool) (r : Option ℕ) (as' : List Argument) → (Counts s r → AllKept s as') → AreRead s (arguments_uses r as')
of_arguments s r [] h = tt
of_arguments s r (a ∷ more) h =
    both s (operand_uses r a.operand) (arguments_uses r more) (of_operand s r a.operand (λ c. (h c).0)) (of_arguments s r more (λ c. (h c).1))

to_edges : (s : ℕ → Bool) (r : Option ℕ) (es : List Incoming) → AreRead s (edges_uses r es) → Counts s r → EdgesKept s es
to_edges s r [] h c = tt
to_edges s r (e ∷ es) h c =
    let p : AreRead s (operand_uses r e.value) × AreRead s (edges_uses r es) = parts s (operand_uses r e.value) (edges_uses r es) h in
    (to_operand s r e.value p.0 c, to_edges s r es p.1 c)

of_edges : (s : ℕ → Bool) (r : Option ℕ) (es : List Incoming) → (Counts s r → EdgesKept s es) → AreRead s (edges_uses r es)
of_edges s r [] h = tt
of_edges s r (e ∷ es) h =
    both s (operand_uses r e.value) (edges_uses r es) (of_operand s r e.value (λ c. (h c).0)) (of_edges s r es (λ c. (h c).1))

-- two operands in a row
to_two : (s : ℕ → Bool) (r : Option ℕ) (a b : Operand) → AreRead s (operand_uses r a ++ operand_uses r b) → Counts s r → IsKept s a × IsKept s b
to_two s r a b h c =
    let p : AreRead s (operand_uses r a) × AreRead s (operand_uses r b) = parts s (operand_uses r a) (operand_uses r b) h in
    (to_operand s r a p.0 c, to_operand s r b p.1 c)

of_two : (s : ℕ → Bool) (r : Option ℕ) (a b : Operand) → (Counts s r → IsKept s a × IsKept s b) → AreRead s (operand_uses r a ++ operand_uses r b)
of_two s r a b h = both s (operand_uses r a) (operand_uses r b) (of_operand s r a (λ c. (h c).0)) (of_operand s r b (λ c. (h c).1))

-- an operand, and then arguments
to_more : (s : ℕ → Bool) (r : Option ℕ) (o : Operand) (as' : List Argument) → AreRead s (operand_uses r o ++ arguments_uses r as') → Counts s r → IsKept s o × AllKept s as'
to_more s r o as' h c =
    let p : AreRead s (operand_uses r o) × AreRead s (arguments_uses r as') = parts s (operand_uses r o) (arguments_uses r as') h in
    (to_operand s r o p.0 c, to_arguments s r as' p.1 c)

of_more : (s : ℕ → Bool) (r : Option ℕ) (o : Operand) (as' : List Argument) → (Counts s r → IsKept s o × AllKept s as') → AreRead s (operand_uses r o ++ arguments_uses r as')
of_more s r o as' h = both s (operand_uses r o) (arguments_uses r as') (of_operand s r o (λ c. (h c).0)) (of_arguments s r as' (λ c. (h c).1))

to_instr : (s : ℕ → Bool) (r : Option ℕ) (i : Instr) → AreRead s (instr_uses r i) → Counts s r → UsesKept s i
to_instr s r (Binary op flags width left right) h c = to_two s r left right h c
to_instr s r (Icmp predicate reg left right) h c = to_two s r left right h c
to_instr s r (Cast op from value to) h c = to_operand s r value h c
to_instr s r (Select condition t f) h c =
    let p : AreRead s (operand_uses r condition) × AreRead s (operand_uses r t.operand ++ operand_uses r f.operand) = parts s (operand_uses r condition) (operand_uses r t.operand ++ operand_uses r f.operand) h in
    let arms : IsKept s t.operand × IsKept s f.operand = to_two s r t.operand f.operand p.1 c in
    (to_operand s r condition p.0 c, arms.0, arms.1)
to_instr s r (Freeze reg value) h c = to_operand s r value h c
to_instr s r (Alloca shape align) h c = tt
to_instr s r (Load reg address align) h c = to_operand s r address h c
to_instr s r (Store reg value address align) h c = to_two s r value address h c
to_instr s r (Address inbounds shape base indices) h c = to_more s r base indices h c
to_instr s r (Call result callee arguments) h c = to_more s r callee arguments h c
to_instr s r (StrayPhi reg incoming) h c = tt

of_instr : (s : ℕ → Bool) (r : Option ℕ) (i : Instr) → (Counts s r → UsesKept s i) → AreRead s (instr_uses r i)
of_instr s r (Binary op flags width left right) h = of_two s r left right h
of_instr s r (Icmp predicate reg left right) h = of_two s r left right h
of_instr s r (Cast op from value to) h = of_operand s r value h
of_instr s r (Select condition t f) h =
    both s (operand_uses r condition) (operand_uses r t.operand ++ operand_uses r f.operand) (of_operand s r condition (λ c. (h c).0)) (of_two s r t.operand f.operand (λ c. ((h c).1, (h c).2)))
of_instr s r (Freeze reg value) h = of_operand s r value h
of_instr s r (Alloca shape align) h = tt
of_instr s r (Load reg address align) h = of_operand s r address h
of_instr s r (Store reg value address align) h = of_two s r value address h
of_instr s r (Address inbounds shape base indices) h = of_more s r base indices h
of_instr s r (Call result callee arguments) h = of_more s r callee arguments h
of_instr s r (StrayPhi reg incoming) h = tt

to_phis : (s : ℕ → Bool) (ps : List Phi) → AreRead s (phis_uses ps) → PhisKept s ps
to_phis s [] h = tt
to_phis s (p ∷ ps) h =
    let q : AreRead s (edges_uses (Some p.local) p.incoming) × AreRead s (phis_uses ps) = parts s (edges_uses (Some p.local) p.incoming) (phis_uses ps) h in
    (λ c. to_edges s (Some p.local) p.incoming q.0 c, to_phis s ps q.1)

of_phis : (s : ℕ → Bool) (ps : List Phi) → PhisKept s ps → AreRead s (phis_uses ps)
of_phis s [] h = tt
of_phis s (p ∷ ps) h =
    both s (edges_uses (Some p.local) p.incoming) (phis_uses ps) (of_edges s (Some p.local) p.incoming h.0) (of_phis s ps h.1)

to_named : (s : ℕ → Bool) (local : Option ℕ) (i : Instr) → AreRead s (named_uses local i) → local_kept s local ≡ true → UsesKept s i
to_named s None i h k = absurd cc
to_named s (Some x) i h k = to_instr s (Some x) i h k

of_named : (s : ℕ → Bool) (local : Option ℕ) (i : Instr) → (local_kept s local ≡ true → UsesKept s i) → AreRead s (named_uses local i)
of_named s None i h = tt
of_named s (Some x) i h = of_instr s (Some x) i h

to_line : (s : ℕ → Bool) (l : Line) → AreRead s (line_uses l) → is_needed s l ≡ true → UsesKept s l.instr
to_line s l h n = at (is_effect l.instr) h n
  where
    at : (b : Bool) → AreRead s (cond b (instr_uses None l.instr) (named_uses l.local l.instr)) → (b || local_kept s l.local) ≡ true → UsesKept s l.instr
    at true h n = to_instr s None l.instr h tt
    at false h n = to_named s l.local l.instr h n

of_line : (s : ℕ → Bool) (l : Line) → (is_needed s l ≡ true → UsesKept s l.instr) → AreRead s (line_uses l)
of_line s l h = at (is_effect l.instr) h
  where
    at : (b : Bool) → ((b || local_kept s l.local) ≡ true → UsesKept s l.instr) → AreRead s (cond b (instr_uses None l.instr) (named_uses l.local l.instr))
    at true h = of_instr s None l.instr (λ c. h refl)
    at false h = of_named s l.local l.instr h

to_lines : (s : ℕ → Bool) (ls : List Line) → AreRead s (lines_uses ls) → LinesClosed s ls
to_lines s [] h = tt
to_lines s (l ∷ ls) h =
    let p : AreRead s (line_uses l) × AreRead s (lines_uses ls) = parts s (line_uses l) (lines_uses ls) h in
    (to_line s l p.0, to_lines s ls p.1)

of_lines : (s : ℕ → Bool) (ls : List Line) → LinesClosed s ls → AreRead s (lines_uses ls)
of_lines s [] h = tt
of_lines s (l ∷ ls) h = both s (line_uses l) (lines_uses ls) (of_line s l h.0) (of_lines s ls h.1)

to_end : (s : ℕ → Bool) (t : Terminator) → AreRead s (end_uses t) → EndReads s t
to_end s (Return None) h = tt
to_end s (Return (Some a)) h = to_operand s None a.operand h tt
to_end s (Jump target) h = tt
to_end s (Branch condition t f) h = to_operand s None condition h tt
to_end s (Switch width value default cases) h = to_operand s None value h tt
to_end s Unreachable h = tt

of_end : (s : ℕ → Bool) (t : Terminator) → EndReads s t → AreRead s (end_uses t)
of_end s (Return None) h = tt
of_end s (Return (Some a)) h = of_operand s None a.operand (λ c. h)
of_end s (Jump target) h = tt
of_end s (Branch condition t f) h = of_operand s None condition (λ c. h)
of_end s (Switch width value default cases) h = of_operand s None value (λ c. h)
of_end s Unreachable h = tt

to_block : (s : ℕ → Bool) (b : Block) → AreRead s (block_uses b) → IsBlockClosed s b
unfolding of_parts
to_block s b h =
    let p : AreRead s (phis_uses b.phis) × AreRead s (lines_uses b.lines ++ end_uses b.end) = parts s (phis_uses b.phis) (lines_uses b.lines ++ end_uses b.end) h in
    let q : AreRead s (lines_uses b.lines) × AreRead s (end_uses b.end) = parts s (lines_uses b.lines) (end_uses b.end) p.1 in
    (to_phis s b.phis p.0, (to_lines s b.lines q.0, to_end s b.end q.1))

of_block : (s : ℕ → Bool) (b : Block) → IsBlockClosed s b → AreRead s (block_uses b)
unfolding of_parts
of_block s b h =
    both s (phis_uses b.phis) (lines_uses b.lines ++ end_uses b.end) (of_phis s b.phis h.0)
    (both s (lines_uses b.lines) (end_uses b.end) (of_lines s b.lines h.1.0) (of_end s b.end h.1.1))

to_blocks : (s : ℕ → Bool) (bs : List Block) → AreRead s (blocks_uses bs) → AreBlocksClosed s bs
to_blocks s [] h = tt
to_blocks s (b ∷ bs) h =
    let p : AreRead s (block_uses b) × AreRead s (blocks_uses bs) = parts s (block_uses b) (blocks_uses bs) h in
    (to_block s b p.0, to_blocks s bs p.1)

of_blocks : (s : ℕ → Bool) (bs : List Block) → AreBlocksClosed s bs → AreRead s (blocks_uses bs)
of_blocks s [] h = tt
of_blocks s (b ∷ bs) h = both s (block_uses b) (blocks_uses bs) (of_block s b h.0) (of_blocks s bs h.1)

-- ---- the least set

closed_in_blocks : (s : ℕ → Bool) (bs : List Block) → IsClosedUnder (read_by None (blocks_uses bs)) (λ x. read_by (Some x) (blocks_uses bs)) s → AreBlocksClosed s bs
closed_in_blocks s bs h = to_blocks s bs (all_read s (blocks_uses bs) h.0 h.1)

closed_under_uses : (s : ℕ → Bool) (bs : List Block) → AreBlocksClosed s bs → IsClosedUnder (read_by None (blocks_uses bs)) (λ x. read_by (Some x) (blocks_uses bs)) s
closed_under_uses s bs h =
    let g : AreRead s (blocks_uses bs) = of_blocks s bs h in
    (row_of s None tt (blocks_uses bs) g, λ x k. row_of s (Some x) k (blocks_uses bs) g)

-- the least set under the uses of a function is its least closed set
pub least_closed : (keeps : ℕ → Bool) (f : Function) (us : List Use) (first : List ℕ) (read : ℕ → List ℕ)
    → us ≡ blocks_uses f.blocks → first ≡ read_by None us → ((x : ℕ) → read x ≡ read_by (Some x) us)
    → IsLeastUnder first read keeps → IsLeastClosed keeps f
least_closed keeps f us first read uses_is first_is read_is l = record {
  closed = closed_in_blocks keeps f.blocks (subst (AllIn keeps) at_first l.closed.0, λ x k. subst (AllIn keeps) (at_read x) (l.closed.1 x k));
  least = λ s closed. l.least s (back s (closed_under_uses s f.blocks closed));
}
  where
    at_first : first ≡ read_by None (blocks_uses f.blocks)
    at_first = first_is ∙ ap (read_by None) uses_is

    at_read : (x : ℕ) → read x ≡ read_by (Some x) (blocks_uses f.blocks)
    at_read x = read_is x ∙ ap (read_by (Some x)) uses_is

    back : (s : ℕ → Bool) → IsClosedUnder (read_by None (blocks_uses f.blocks)) (λ x. read_by (Some x) (blocks_uses f.blocks)) s → IsClosedUnder first read s
    back s h = (subst (AllIn s) (sym at_first) h.0, λ x k. subst (AllIn s) (sym (at_read x)) (h.1 x k))
