-- There are as many lines as phis, instructions and terminators.
use Rattle.std.proofs.Common.{◌≡◌, refl, sym, ap, ◌∙◌, ℕ, suc, ◌+◌, List, [], ◌∷◌, ◌++◌, map, length, flat_map, Option, None, Some, Result, Ok, Err, IfOk, arith, length-append}
use Rattle.std.proofs.lemmas.List.{length-map}
use Rattle.ir_parse_parts.specs.declared.raw.Block as raw_block
use Rattle.ir_parse_parts.specs.declared.raw.WrittenLine as raw_line
use Rattle.ir_tree.specs.declared.block.Block.{Block}
use Rattle.ir_tree.specs.declared.block.Terminator.{Terminator}
use Rattle.ir_tree.specs.declared.instr.Line.{Line}
use Rattle.ir_tree.specs.declared.instr.Phi.{Phi}
use Rattle.ir_tree.specs.declared.function.Function.{Function}
use Rattle.ir_tree.specs.Items.{phi_item, end_item, lines_from, block_items, items_from, items}
use Rattle.ir_parse_names.specs.declared.fault.Fault.{Fault}
use Rattle.ir_parse_values.specs.Blocks.{phi_before, lines_behind, as_phi, phis_of, rest_of, body_of, block_of, block_in, blocks_in, behind_block, blocks_of, params_from, function_in}
use Rattle.ir_parse_names.specs.Bodies.{instr_in, lines_in, behind_line, end_in, local_at}
use Rattle.ir_parse_names.specs.Locals.{LocalTable}
use Rattle.ir_parse_names.specs.Numbering.{locals_of}
use Rattle.ir_parse_names.specs.Resolving.{◌>>=◌}
use Rattle.ir_parse_names.specs.Symbols.{symbol_of}
use Rattle.ir_parse_names.specs.Types.{Types}
use Rattle.ir_parse.specs.Lines.{block_lines}
use Rattle.ir_parse.specs.LineLaws.{LinesFit}

-- the phis that stand first and the other lines are all lines
parted_by : (l : Line) (ls : List Line) (o : Option Phi) → length (phis_of ls) + length (rest_of ls) ≡ length ls → length (phi_before o (phis_of ls)) + length (lines_behind o (l ∷ ls) (rest_of ls)) ≡ length (l ∷ ls)
parted_by l ls None h = omega arith
parted_by l ls (Some p) h = omega (arith, h)

parted : (ls : List Line) → length (phis_of ls) + length (rest_of ls) ≡ length ls
parted [] = refl
parted (l ∷ ls) = parted_by l ls (as_phi l) (parted ls)

one_more : {A B E : Type 0} (g : A → B) (r : Result A E) (s : Result (List B) E) (n : ℕ) → IfOk s (λ ys. length ys ≡ n) → IfOk (r >>= λ x. s >>= λ ys. Ok (g x ∷ ys)) (λ ys. length ys ≡ suc n)
one_more g (Ok x) (Ok ys) n h = ap suc h
one_more g (Ok x) (Err e) n h = tt
one_more g (Err e) s n h = tt

lines_many : (types : Types) (locals : LocalTable) (next : ℕ) (written : List raw_line.WrittenLine) → IfOk (lines_in types locals next written) (λ ls. length ls ≡ length written)
lines_many types locals next [] = refl
lines_many types locals next (l ∷ written) =
    one_more (λ i. record { local = local_at next l; instr = i }) (instr_in types locals l.instr) (lines_in types locals (behind_line next l) written) (length written) (lines_many types locals (behind_line next l) written)

ended : (number n : ℕ) (r : Result (List Line) Fault) (s : Result Terminator Fault) → IfOk r (λ ls. length ls ≡ n)
    → IfOk ((r >>= λ ls. Ok (body_of ls)) >>= λ body. s >>= λ e. Ok (record { number = number; phis = body.phis; lines = body.lines; end = e })) (λ (b : Block). length b.phis + length b.lines ≡ n)
ended number n (Ok ls) (Ok e) h = parted ls ∙ h
ended number n (Ok ls) (Err e) h = tt
ended number n (Err e) s h = tt

block_many : (types : Types) (locals : LocalTable) (number : ℕ) (b : raw_block.Block) → IfOk (block_in types locals number b) (λ t. length t.phis + length t.lines ≡ length b.lines)
unfolding block_of
block_many types locals number b =
    ended number (length b.lines) (lines_in types locals (number + 1) b.lines) (end_in types locals b.end) (lines_many types locals (number + 1) b.lines)

placed_many : (k i : ℕ) (ls : List Line) → length (lines_from k i ls) ≡ length ls
placed_many k i [] = refl
placed_many k i (l ∷ ls) = ap suc (placed_many k (suc i) ls)

-- the items of a block
block_long : (k : ℕ) (t : Block) → length (block_items k t) ≡ length t.phis + length t.lines + 1
block_long k t =
    let phis : length (map (phi_item k) t.phis) ≡ length t.phis = length-map t.phis (phi_item k) in
    let lines : length (lines_from k 0 t.lines) ≡ length t.lines = placed_many k 0 t.lines in
    let behind : length (lines_from k 0 t.lines ++ end_item k t.end ∷ []) ≡ length (lines_from k 0 t.lines) + 1 = length-append (lines_from k 0 t.lines) (end_item k t.end ∷ []) in
    let all : length (block_items k t) ≡ length (map (phi_item k) t.phis) + length (lines_from k 0 t.lines ++ end_item k t.end ∷ []) = length-append (map (phi_item k) t.phis) (lines_from k 0 t.lines ++ end_item k t.end ∷ []) in
    omega (arith, phis, lines, behind, all)

-- its lines
written_long : (b : raw_block.Block) → length (block_lines b) ≡ length b.lines + 1
written_long b =
    let lines : length (map (λ (l : raw_line.WrittenLine). l.line) b.lines) ≡ length b.lines = length-map b.lines (λ (l : raw_line.WrittenLine). l.line) in
    let all : length (block_lines b) ≡ length (map (λ (l : raw_line.WrittenLine). l.line) b.lines) + 1 = length-append (map (λ (l : raw_line.WrittenLine). l.line) b.lines) (b.end_line ∷ []) in
    omega (arith, lines, all)

followed : (k : ℕ) (b : raw_block.Block) (bs : List raw_block.Block) (r : Result Block Fault) (s : Result (List Block) Fault) → IfOk r (λ t. length t.phis + length t.lines ≡ length b.lines)
    → IfOk s (λ ts. length (flat_map block_lines bs) ≡ length (items_from (suc k) ts)) → IfOk (r >>= λ t. s >>= λ ts. Ok (t ∷ ts)) (λ ts. length (flat_map block_lines (b ∷ bs)) ≡ length (items_from k ts))
followed k b bs (Ok t) (Ok ts) one rest =
    let long : length (block_items k t) ≡ length t.phis + length t.lines + 1 = block_long k t in
    let written : length (block_lines b) ≡ length b.lines + 1 = written_long b in
    length-append (block_lines b) (flat_map block_lines bs) ∙ omega (arith, long, written, one, rest) ∙ sym (length-append (block_items k t) (items_from (suc k) ts))
followed k b bs (Ok t) (Err e) one rest = tt
followed k b bs (Err e) s one rest = tt

blocks_many : (types : Types) (locals : LocalTable) (next k : ℕ) (bs : List raw_block.Block) → IfOk (blocks_in types locals next bs) (λ ts. length (flat_map block_lines bs) ≡ length (items_from k ts))
blocks_many types locals next k [] = refl
blocks_many types locals next k (b ∷ bs) =
    followed k b bs (block_in types locals next b) (blocks_in types locals (behind_block next b) bs) (block_many types locals next b) (blocks_many types locals (behind_block next b) (suc k) bs)

then_ok : {A B E : Type 0} (r : Result A E) (f : A → Result B E) (Q : B → Type 0) → ((x : A) → IfOk (f x) Q) → IfOk (r >>= f) Q
then_ok (Ok x) f Q h = h x
then_ok (Err e) f Q h = tt

ok_as : {A B E : Type 0} (r : Result A E) (g : A → B) (Q : B → Type 0) → IfOk r (λ x. Q (g x)) → IfOk (r >>= λ x. Ok (g x)) Q
ok_as (Ok x) g Q h = h
ok_as (Err e) g Q h = tt

-- a function has a line for each item
pub function_lined : LinesFit
unfolding function_in
function_lined types head blocks noinline optnone =
    ok_as (blocks_of types head.params blocks) (λ bs. record { symbol = symbol_of head.name; linkage = head.linkage; result = head.result; params = params_from 0 head.params; noinline = noinline; optnone = optnone; blocks = bs }) (λ (f : Function). length (flat_map block_lines blocks) ≡ length (items f))
    (then_ok (locals_of head.params blocks) (λ locals. blocks_in types locals (length head.params) blocks) (λ bs. length (flat_map block_lines blocks) ≡ length (items_from 0 bs)) (λ locals. blocks_many types locals (length head.params) 0 blocks))
