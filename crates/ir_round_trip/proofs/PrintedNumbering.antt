-- The definitions of a printed function are known in the order of the text, each under its place.
use Rattle.std.proofs.Common.{◌≡◌, ℕ, ◌+◌, ◌<◌, ◌≤◌, Bool, true, false, cond, ◌||◌, is_some, nat_eq, nat_lt, Option, Some, None, Ok, Err, List, [], ◌∷◌, ◌++◌, length, refl, sym, ap, subst, ◌∙◌, append_assoc, append-nil, arith}
use Rattle.std.specs.List.{AllByRecursion as Each}
use Rattle.ir_lex.specs.Tok.{Tok}
use Rattle.ir_parse_names.specs.Keys.{Key, spelled, written, key_of}
use Rattle.ir_parse_names.specs.Locals.{LocalTable, with_key, with_name, with_definition, is_below, stands, twice, AreBelow}
use Rattle.ir_parse_names.specs.Numbering.{has_result, is_defined, with_params, with_line, with_lines, with_block, with_blocks, locals_of}
use Rattle.ir_parse_names.specs.declared.locals.Sort.{Sort}
use Rattle.ir_parse_names.specs.declared.locals.Sort.TheVariants.{Value, Block}
use Rattle.ir_parse_parts.specs.declared.raw.Block as raw_block
use Rattle.ir_parse_parts.specs.declared.raw.Instr as raw_instr
use Rattle.ir_parse_parts.specs.declared.raw.Instr.TheVariants as ri
use Rattle.ir_parse_parts.specs.declared.raw.WrittenLine as raw_line
use Rattle.ir_parse_parts.specs.declared.raw.Param as raw_param
use Rattle.ir_tree.specs.Formed.{ResultFormed}
use Rattle.ir_tree.specs.declared.block.Block as tree_block
use Rattle.ir_tree.specs.declared.function.Param.{Param}
use Rattle.ir_tree.specs.declared.instr.Instr.{Instr}
use Rattle.ir_tree.specs.declared.instr.Instr.TheVariants.{Binary, Icmp, Cast, Select, Freeze, Alloca, Load, Store, Address, Call, Phi}
use Rattle.ir_tree.specs.declared.instr.Line.{Line}
use Rattle.ir_round_trip.specs.Bodies.{stated}
use Rattle.ir_round_trip.specs.Printed.{IsInstruction, IsBound, IsLine, IsContent, IsLabelOf, IsLabelled, AreBlocks}
use Rattle.ir_round_trip.specs.Readable.{ResultReadable, LineReadable, BlockReadable}
use Rattle.ir_round_trip.proofs.Binds.{bound}
use Rattle.ir_round_trip.proofs.Keys.{local_key, label_key}
use Rattle.ir_round_trip.proofs.Uses.{keys_from, known_with}
use Rattle.ir_round_trip.specs.Sorts.{params_sorts, result_sort, lines_sorts, blocks_sorts, ParamsFollow, ResultFollows, LinesFollow, BlocksFollow, past, past_lines, past_params}
use Rattle.ir_round_trip.specs.PartsPrinted.{Paired, IsNamed, IsParam}
use Rattle.ir_round_trip.specs.PartsReadable.{ParamReadable}

-- ---- one definition more

keys_behind : (k x : ℕ) (ss : List Sort) (s : Sort) → x ≡ k + length ss → keys_from k (ss ++ s ∷ []) ≡ keys_from k ss ++ (written x, s) ∷ []
keys_behind k x [] s at = let same : k ≡ x = omega (arith, at) in ap (λ (n : ℕ). (written n, s) ∷ []) same
keys_behind k x (t ∷ ss) s at = ap (λ (ds : List (Key × Sort)). (written k, t) ∷ ds) (keys_behind (k + 1) x ss s (omega (arith, at)))

pub long_behind : (ss : List Sort) (s : Sort) → length (ss ++ s ∷ []) ≡ length ss + 1
long_behind [] s = refl
long_behind (x ∷ ss) s = let more : length (ss ++ s ∷ []) ≡ length ss + 1 = long_behind ss s in omega (arith, more)

below : (n k : ℕ) (ss : List Sort) → k + length ss ≤ n → AreBelow n (keys_from k ss)
below n k [] h = tt
below n k (s ∷ ss) h = (omega (arith, h), below n (k + 1) ss (omega (arith, h)))

-- no definition stands under the counter
no_key : (counter : ℕ) (ds : List (Key × Sort)) → AreBelow counter ds → stands ds (written counter) ≡ false
no_key counter [] h = refl
no_key counter ((spelled name, s) ∷ ds) h = no_key counter ds h.1
no_key counter ((written n, s) ∷ ds) h = by (nat_eq counter n) refl (no_key counter ds h.1)
  where
    same : nat_eq counter n ≡ true → counter ≡ n
    same e = grind arith

    by : (b : Bool) → nat_eq counter n ≡ b → stands ds (written counter) ≡ false → stands ((written n, s) ∷ ds) (written counter) ≡ false
    by true e rest = absurd (let below : n < counter = h.0 in let at : counter ≡ n = same e in omega (arith, below, at))
    by false e rest = rw e rest

more_known : (ss : List Sort) (s : Sort) → with_key (known_with ss) (written (length ss)) s ≡ known_with (ss ++ s ∷ [])
more_known ss s =
    ap (λ (ds : List (Key × Sort)). record { definitions = ds; counter = length ss + 1 }) (sym (keys_behind 0 (length ss) ss s (omega arith)))
    ∙ ap (λ (n : ℕ). record { definitions = keys_from 0 (ss ++ s ∷ []); counter = n }) (sym (long_behind ss s))

free : (ss : List Sort) → is_below (length ss) (written (length ss)) || stands (keys_from 0 ss) (written (length ss)) ≡ false
free ss = rw (not_less (length ss), no_key (length ss) (keys_from 0 ss) (below (length ss) 0 ss (omega arith))) refl
  where
    not_less : (n : ℕ) → nat_lt n n ≡ false
    not_less n = grind arith

named_more : (ss : List Sort) (s : Sort) (t : Tok) → key_of t ≡ written (length ss) → with_name (known_with ss) (Some t) s ≡ Ok (known_with (ss ++ s ∷ []))
named_more ss s t e =
    ap (λ (k : Key). with_definition (known_with ss) t.line k s) e
    ∙ ap (λ (b : Bool). cond b (Err (twice t.line)) (Ok (with_key (known_with ss) (written (length ss)) s))) (free ss)
    ∙ ap (λ (k : LocalTable). Ok k) (more_known ss s)

pub unnamed_more : (ss : List Sort) (s : Sort) → with_name (known_with ss) None s ≡ Ok (known_with (ss ++ s ∷ []))
unnamed_more ss s = ap (λ (k : LocalTable). Ok k) (more_known ss s)

-- ---- parameters

params_again : (ss : List Sort) (ps : List Param) (rs : List raw_param.Param) → Each ParamReadable ps → ParamsFollow (length ss) ps → Paired IsParam ps rs → with_params (known_with ss) rs ≡ Ok (known_with (ss ++ params_sorts ps))
params_again ss [] [] h f p = ap (λ (more : List Sort). Ok (known_with more)) (sym (append-nil ss))
params_again ss [] (r ∷ rs) h f p = absurd p
params_again ss (q ∷ ps) [] h f p = absurd p
params_again ss (q ∷ ps) (r ∷ rs) h f p =
    bound (λ k. with_params k rs) (one r.name p.0.1)
    (params_again (ss ++ Value ∷ []) ps rs h.1 (subst (λ (n : ℕ). ParamsFollow n ps) (sym (long_behind ss Value)) f.1) p.1 ∙ ap (λ (more : List Sort). Ok (known_with more)) (append_assoc ss (Value ∷ []) (params_sorts ps)))
  where
    one : (name : Option Tok) → IsNamed q.local name → with_name (known_with ss) name Value ≡ Ok (known_with (ss ++ Value ∷ []))
    one None i = absurd i
    one (Some t) i = named_more ss Value t (local_key q.local t h.0.local i ∙ ap written f.0)

-- ---- lines

abbrev gives : Instr → Bool
gives (Call result callee arguments) = is_some result
gives (Store reg value address align) = false
gives i = true

result_again : (i : Instr) (j : raw_instr.Instr) → IsInstruction i j → has_result j ≡ gives i
result_again (Binary op flags w x y) (ri.Binary o f v l r) h = refl
result_again (Icmp predicate reg x y) (ri.Icmp p g l r) h = refl
result_again (Cast op from x to) (ri.Cast o g v k) h = refl
result_again (Select c x y) (ri.Select d t f) h = refl
result_again (Freeze reg x) (ri.Freeze g v) h = refl
result_again (Alloca shape align) (ri.Alloca typed count a) h = refl
result_again (Load reg address align) (ri.Load g x a) h = refl
result_again (Store reg x address align) (ri.Store g v y a) h = refl
result_again (Address inbounds shape base indices) (ri.Address b typed x is) h = refl
result_again (Call result callee arguments) (ri.Call r f as') h = ap is_some h.0
result_again (Phi reg edges) (ri.Phi g is) h = refl
result_again i j h = absurd h

gives_none : (i : Instr) → ResultFormed i None → gives i ≡ false
gives_none (Call None callee arguments) h = refl
gives_none (Store reg x address align) h = refl
gives_none i h = absurd cc

-- a line gives a result where it has a name
pub defined_again : (name : Option ℕ) (i : Instr) (r : raw_line.WrittenLine) → ResultFormed i name → IsBound name r.name → IsInstruction i r.instr → is_defined r ≡ is_some name
defined_again name i r h b j = by_name name r.name h b
  where
    by_name : (name : Option ℕ) (t : Option Tok) → ResultFormed i name → IsBound name t → is_some t || has_result r.instr ≡ is_some name
    by_name None t h b = ap (λ (o : Option Tok). is_some o || has_result r.instr) b ∙ result_again i r.instr j ∙ gives_none i h
    by_name (Some n) None h b = absurd b
    by_name (Some n) (Some t) h b = refl

abbrev pub LineFormed : Line → Type 0
LineFormed l = ResultFormed l.instr l.local

line_again : (ss : List Sort) (l : Line) (r : raw_line.WrittenLine) → LineReadable l → LineFormed l → ResultFollows (length ss) l.local → IsLine l r → with_line (known_with ss) r ≡ Ok (known_with (ss ++ result_sort l.local))
line_again ss l r h g f p = ap (λ (b : Bool). cond b (with_name (known_with ss) r.name Value) (Ok (known_with ss))) (defined_again l.local l.instr r g p.0 p.1) ∙ by_name l.local r.name h.1 f p.0
  where
    by_name : (name : Option ℕ) (t : Option Tok) → ResultReadable l.instr name → ResultFollows (length ss) name → IsBound name t → cond (is_some name) (with_name (known_with ss) t Value) (Ok (known_with ss)) ≡ Ok (known_with (ss ++ result_sort name))
    by_name None t h f b = ap (λ (more : List Sort). Ok (known_with more)) (sym (append-nil ss))
    by_name (Some n) None h f b = absurd b
    by_name (Some n) (Some t) h f b = named_more ss Value t (local_key n t h.0 b ∙ ap written f)

long_past : (ss : List Sort) (name : Option ℕ) → length (ss ++ result_sort name) ≡ past (length ss) name
long_past ss None = ap length (append-nil ss)
long_past ss (Some n) = long_behind ss Value

lines_again : (ss : List Sort) (ls : List Line) (rs : List raw_line.WrittenLine) → Each LineReadable ls → Each LineFormed ls → LinesFollow (length ss) ls → Paired IsLine ls rs → with_lines (known_with ss) rs ≡ Ok (known_with (ss ++ lines_sorts ls))
lines_again ss [] [] h g f p = ap (λ (more : List Sort). Ok (known_with more)) (sym (append-nil ss))
lines_again ss [] (r ∷ rs) h g f p = absurd p
lines_again ss (l ∷ ls) [] h g f p = absurd p
lines_again ss (l ∷ ls) (r ∷ rs) h g f p =
    bound (λ k. with_lines k rs) (line_again ss l r h.0 g.0 f.0 p.0)
    (lines_again (ss ++ result_sort l.local) ls rs h.1 g.1 (subst (λ (n : ℕ). LinesFollow n ls) (sym (long_past ss l.local)) f.1) p.1
    ∙ ap (λ (more : List Sort). Ok (known_with more)) (append_assoc ss (result_sort l.local) (lines_sorts ls)))

long_lines : (ss : List Sort) (ls : List Line) → length (ss ++ lines_sorts ls) ≡ past_lines (length ss) ls
long_lines ss [] = ap length (append-nil ss)
long_lines ss (l ∷ ls) = ap length (sym (append_assoc ss (result_sort l.local) (lines_sorts ls))) ∙ long_lines (ss ++ result_sort l.local) ls ∙ ap (λ (n : ℕ). past_lines n ls) (long_past ss l.local)

-- ---- blocks

abbrev pub BlockFormed : tree_block.Block → Type 0
BlockFormed b = Each LineFormed (stated b)

-- behind the block's own number
block_again : (ss : List Sort) (b : tree_block.Block) (r : raw_block.Block) → BlockReadable b → BlockFormed b → LinesFollow (length ss + 1) (stated b) → IsContent b r → with_name (known_with ss) r.label Block ≡ Ok (known_with (ss ++ Block ∷ []))
    → with_block (known_with ss) r ≡ Ok (known_with (ss ++ (Block ∷ lines_sorts (stated b))))
unfolding with_block
block_again ss b r h g f c label =
    bound (λ k. with_lines k r.lines) label
    (lines_again (ss ++ Block ∷ []) (stated b) r.lines h.lines g (subst (λ (n : ℕ). LinesFollow n (stated b)) (sym (long_behind ss Block)) f) c.lines
    ∙ ap (λ (more : List Sort). Ok (known_with more)) (append_assoc ss (Block ∷ []) (lines_sorts (stated b))))

long_block : (ss : List Sort) (b : tree_block.Block) → length (ss ++ (Block ∷ lines_sorts (stated b))) ≡ past_lines (length ss + 1) (stated b)
long_block ss b = ap length (sym (append_assoc ss (Block ∷ []) (lines_sorts (stated b)))) ∙ long_lines (ss ++ Block ∷ []) (stated b) ∙ ap (λ (n : ℕ). past_lines n (stated b)) (long_behind ss Block)

label_again : (ss : List Sort) (b : tree_block.Block) (label : Option Tok) → BlockReadable b → b.number ≡ length ss → IsLabelOf b.number label → with_name (known_with ss) label Block ≡ Ok (known_with (ss ++ Block ∷ []))
label_again ss b None h f i = absurd i
label_again ss b (Some t) h f i = named_more ss Block t (label_key b.number t h.number i ∙ ap written f)

further_again : (ss : List Sort) (bs : List tree_block.Block) (rs : List raw_block.Block) → Each BlockReadable bs → Each BlockFormed bs → BlocksFollow (length ss) bs → Paired IsLabelled bs rs → with_blocks (known_with ss) rs ≡ Ok (known_with (ss ++ blocks_sorts bs))
further_again ss [] [] h g f p = ap (λ (more : List Sort). Ok (known_with more)) (sym (append-nil ss))
further_again ss [] (r ∷ rs) h g f p = absurd p
further_again ss (b ∷ bs) [] h g f p = absurd p
further_again ss (b ∷ bs) (r ∷ rs) h g f p =
    bound (λ k. with_blocks k rs) (block_again ss b r h.0 g.0 f.0.1 p.0.1 (label_again ss b r.label h.0 f.0.0 p.0.0))
    (further_again (ss ++ (Block ∷ lines_sorts (stated b))) bs rs h.1 g.1 (subst (λ (n : ℕ). BlocksFollow n bs) (sym (long_block ss b)) f.1) p.1
    ∙ ap (λ (more : List Sort). Ok (known_with more)) (append_assoc ss (Block ∷ lines_sorts (stated b)) (blocks_sorts bs)))

blocks_again : (ss : List Sort) (bs : List tree_block.Block) (rs : List raw_block.Block) → Each BlockReadable bs → Each BlockFormed bs → BlocksFollow (length ss) bs → AreBlocks bs rs → with_blocks (known_with ss) rs ≡ Ok (known_with (ss ++ blocks_sorts bs))
blocks_again ss [] [] h g f p = ap (λ (more : List Sort). Ok (known_with more)) (sym (append-nil ss))
blocks_again ss [] (r ∷ rs) h g f p = absurd p
blocks_again ss (b ∷ bs) [] h g f p = absurd p
blocks_again ss (b ∷ bs) (r ∷ rs) h g f p =
    bound (λ k. with_blocks k rs) (block_again ss b r h.0 g.0 f.0.1 p.0.1 (ap (λ (label : Option Tok). with_name (known_with ss) label Block) p.0.0 ∙ unnamed_more ss Block))
    (further_again (ss ++ (Block ∷ lines_sorts (stated b))) bs rs h.1 g.1 (subst (λ (n : ℕ). BlocksFollow n bs) (sym (long_block ss b)) f.1) p.1
    ∙ ap (λ (more : List Sort). Ok (known_with more)) (append_assoc ss (Block ∷ lines_sorts (stated b)) (blocks_sorts bs)))

-- ---- functions

long_params : (ss : List Sort) (ps : List Param) → length (ss ++ params_sorts ps) ≡ past_params (length ss) ps
long_params ss [] = ap length (append-nil ss)
long_params ss (p ∷ ps) = ap length (sym (append_assoc ss (Value ∷ []) (params_sorts ps))) ∙ long_params (ss ++ Value ∷ []) ps ∙ ap (λ (n : ℕ). past_params n ps) (long_behind ss Value)

pub locals_again : (ps : List Param) (bs : List tree_block.Block) (rs : List raw_param.Param) (blocks : List raw_block.Block) → Each ParamReadable ps → Each BlockReadable bs → Each BlockFormed bs → ParamsFollow 0 ps → BlocksFollow (past_params 0 ps) bs
    → Paired IsParam ps rs → AreBlocks bs blocks → locals_of rs blocks ≡ Ok (known_with (params_sorts ps ++ blocks_sorts bs))
unfolding locals_of
locals_again ps bs rs blocks h k g f e p q =
    bound (λ known. with_blocks known blocks) (params_again [] ps rs h f p)
    (blocks_again (params_sorts ps) bs blocks k g (subst (λ (n : ℕ). BlocksFollow n bs) (sym (long_params [] ps)) e) q)
