-- The numbers of what a function defines are the places of its definitions in the order of the text.
use Rattle.std.proofs.Common.{◌≡◌, ℕ, suc, ◌+◌, ◌||◌, Bool, true, false, List, [], ◌∷◌, ◌++◌, length, map, Option, Some, None, Ok, Err, refl, sym, ◌∙◌, ap, arith, append_assoc, if◌then◌else◌}
use Rattle.std.specs.Prelude.{flat_map}
use Rattle.std.proofs.lemmas.List.{append-nil, map-append}
use Rattle.ir_lex.specs.Tok.{Tok}
use Rattle.ir_parse_parts.specs.declared.raw.Block as raw_block
use Rattle.ir_parse_parts.specs.declared.raw.WrittenLine as raw_line
use Rattle.ir_parse_parts.specs.declared.raw.Param as raw_param
use Rattle.ir_tree.specs.Flow.{definitions, results}
use Rattle.ir_tree.specs.declared.block.Block as tree_block
use Rattle.ir_tree.specs.declared.instr.Instr.{Instr}
use Rattle.ir_tree.specs.declared.instr.Instr.TheVariants as ti
use Rattle.ir_tree.specs.declared.instr.Line.{Line}
use Rattle.ir_parse_names.specs.declared.locals.Sort.{Sort}
use Rattle.ir_parse_names.specs.declared.locals.Sort.TheVariants.{Value, Block}
use Rattle.ir_parse_values.specs.Blocks.{phi_of, phis_of, rest_of, phi_before, lines_behind, body_of, body_in, block_of, block_in, blocks_in, behind_block, params_from}
use Rattle.ir_parse_names.specs.Bodies.{instr_in, lines_in, end_in, local_at, behind_line, behind_lines}
use Rattle.ir_parse_names.specs.Keys.{Key, key_of, written}
use Rattle.ir_parse_names.specs.Locals.{LocalTable, none_known, is_below, stands, twice, with_key, with_name}
use Rattle.ir_parse_names.specs.Numbering.{is_defined, with_params, with_line, with_lines, with_block, with_blocks, locals_of}
use Rattle.ir_parse_names.specs.Resolving.{◌>>=◌}
use Rattle.ir_parse_names.specs.Types.{Types}
use Rattle.ir_parse.proofs.Gives.{Gives, gives, fails, bind}
use Rattle.ir_parse.proofs.Positions.{positions, positions_both}

-- ---- the sorts of what a text defines, in its order

abbrev pub params_sorts : List raw_param.Param → List Sort
params_sorts [] = []
params_sorts (p ∷ ps) = Value ∷ params_sorts ps

abbrev pub line_sorts : Bool → List Sort
line_sorts true = Value ∷ []
line_sorts false = []

abbrev pub lines_sorts : List raw_line.WrittenLine → List Sort
lines_sorts [] = []
lines_sorts (l ∷ ls) = line_sorts (is_defined l) ++ lines_sorts ls

abbrev pub blocks_sorts : List raw_block.Block → List Sort
blocks_sorts [] = []
blocks_sorts (b ∷ bs) = (Block ∷ lines_sorts b.lines) ++ blocks_sorts bs

abbrev pub text_sorts : List raw_param.Param → List raw_block.Block → List Sort
text_sorts params blocks = params_sorts params ++ blocks_sorts blocks

-- ---- the definitions that are known have these sorts

abbrev pub sorts_of : LocalTable → List Sort
sorts_of known = map (λ d. d.1) known.definitions

abbrev Adds : LocalTable → List Sort → LocalTable → Type 0
Adds known more k = sorts_of k ≡ sorts_of known ++ more

one_key : (known : LocalTable) (key : Key) (sort : Sort) → Adds known (sort ∷ []) (with_key known key sort)
one_key known key sort = map-append (λ d. d.1) known.definitions ((key, sort) ∷ [])

one_name : (known : LocalTable) (name : Option Tok) (sort : Sort) → Gives (with_name known name sort) (Adds known (sort ∷ []))
one_name known None sort = gives (Adds known (sort ∷ [])) (with_key known (written known.counter) sort) (one_key known (written known.counter) sort)
one_name known (Some name) sort = by (is_below known.counter (key_of name) || stands known.definitions (key_of name))
  where
    by : (b : Bool) → Gives (if b then Err (twice name.line) else Ok (with_key known (key_of name) sort)) (Adds known (sort ∷ []))
    by true = fails (Adds known (sort ∷ [])) (twice name.line)
    by false = gives (Adds known (sort ∷ [])) (with_key known (key_of name) sort) (one_key known (key_of name) sort)

-- what is added behind what was added
further : (known k l : LocalTable) (a b : List Sort) → Adds known a k → Adds k b l → Adds known (a ++ b) l
further known k l a b e g = g ∙ ap (λ (ss : List Sort). ss ++ b) e ∙ append_assoc (sorts_of known) a b

nothing : (known : LocalTable) → Adds known [] known
nothing known = sym (append-nil (sorts_of known))

all_params : (known : LocalTable) (ps : List raw_param.Param) → Gives (with_params known ps) (Adds known (params_sorts ps))
all_params known [] = gives (Adds known []) known (nothing known)
all_params known (p ∷ ps) =
    bind (Adds known (Value ∷ [])) (Adds known (params_sorts (p ∷ ps))) (with_name known p.name Value) (λ k. with_params k ps) (one_name known p.name Value) (λ k e.
    record { given = λ l is. further known k l (Value ∷ []) (params_sorts ps) e ((all_params k ps).given l is) })

one_line : (known : LocalTable) (l : raw_line.WrittenLine) → Gives (with_line known l) (Adds known (line_sorts (is_defined l)))
one_line known l = by (is_defined l)
  where
    by : (b : Bool) → Gives (if b then with_name known l.name Value else Ok known) (Adds known (line_sorts b))
    by true = one_name known l.name Value
    by false = gives (Adds known []) known (nothing known)

all_lines : (known : LocalTable) (ls : List raw_line.WrittenLine) → Gives (with_lines known ls) (Adds known (lines_sorts ls))
all_lines known [] = gives (Adds known []) known (nothing known)
all_lines known (l ∷ ls) =
    bind (Adds known (line_sorts (is_defined l))) (Adds known (lines_sorts (l ∷ ls))) (with_line known l) (λ k. with_lines k ls) (one_line known l) (λ k e.
    record { given = λ m is. further known k m (line_sorts (is_defined l)) (lines_sorts ls) e ((all_lines k ls).given m is) })

one_block : (known : LocalTable) (b : raw_block.Block) → Gives (with_block known b) (Adds known (Block ∷ lines_sorts b.lines))
unfolding with_block
one_block known b =
    bind (Adds known (Block ∷ [])) (Adds known (Block ∷ lines_sorts b.lines)) (with_name known b.label Block) (λ k. with_lines k b.lines) (one_name known b.label Block) (λ k e.
    record { given = λ m is. further known k m (Block ∷ []) (lines_sorts b.lines) e ((all_lines k b.lines).given m is) })

all_blocks : (known : LocalTable) (bs : List raw_block.Block) → Gives (with_blocks known bs) (Adds known (blocks_sorts bs))
all_blocks known [] = gives (Adds known []) known (nothing known)
all_blocks known (b ∷ bs) =
    bind (Adds known (Block ∷ lines_sorts b.lines)) (Adds known (blocks_sorts (b ∷ bs))) (with_block known b) (λ k. with_blocks k bs) (one_block known b) (λ k e.
    record { given = λ m is. further known k m (Block ∷ lines_sorts b.lines) (blocks_sorts bs) e ((all_blocks k bs).given m is) })

abbrev pub HasSorts : List Sort → LocalTable → Type 0
HasSorts ss known = sorts_of known ≡ ss

pub known_sorts : (params : List raw_param.Param) (blocks : List raw_block.Block) → Gives (locals_of params blocks) (HasSorts (text_sorts params blocks))
unfolding locals_of
known_sorts params blocks =
    bind (Adds none_known (params_sorts params)) (HasSorts (text_sorts params blocks)) (with_params none_known params) (λ k. with_blocks k blocks) (all_params none_known params) (λ k e.
    record { given = λ l is. further none_known k l (params_sorts params) (blocks_sorts blocks) e ((all_blocks k blocks).given l is) })

-- ---- the numbers that are given

pub params_long : (ps : List raw_param.Param) → length (params_sorts ps) ≡ length ps
params_long [] = refl
params_long (p ∷ ps) = ap suc (params_long ps)

pub params_placed : (n : ℕ) (ps : List raw_param.Param) → map (λ p. p.local) (params_from n ps) ≡ positions Value n (params_sorts ps)
params_placed n [] = refl
params_placed n (p ∷ ps) = ap (λ (ns : List ℕ). n ∷ ns) (params_placed (n + 1) ps)

pub no_blocks_of_params : (n : ℕ) (ps : List raw_param.Param) → positions Block n (params_sorts ps) ≡ []
no_blocks_of_params n [] = refl
no_blocks_of_params n (p ∷ ps) = no_blocks_of_params (n + 1) ps

no_blocks_of_lines : (n : ℕ) (ls : List raw_line.WrittenLine) → positions Block n (lines_sorts ls) ≡ []
no_blocks_of_lines n [] = refl
no_blocks_of_lines n (l ∷ ls) = by (is_defined l) (no_blocks_of_lines (n + 1) ls) (no_blocks_of_lines n ls)
  where
    by : (b : Bool) → positions Block (n + 1) (lines_sorts ls) ≡ [] → positions Block n (lines_sorts ls) ≡ [] → positions Block n (line_sorts b ++ lines_sorts ls) ≡ []
    by true behind here = behind
    by false behind here = here

behind : (n : ℕ) (ls : List raw_line.WrittenLine) → behind_lines n ls ≡ n + length (lines_sorts ls)
behind n [] = omega arith
behind n (l ∷ ls) = by (is_defined l) (behind (n + 1) ls) (behind n ls)
  where
    by : (b : Bool) → behind_lines (n + 1) ls ≡ n + 1 + length (lines_sorts ls) → behind_lines n ls ≡ n + length (lines_sorts ls)
        → behind_lines (if b then n + 1 else n) ls ≡ n + length (line_sorts b ++ lines_sorts ls)
    by true next here = omega (arith, next)
    by false next here = here

abbrev Takes : ℕ → List raw_line.WrittenLine → List Line → Type 0
Takes n ls out = results out ≡ positions Value n (lines_sorts ls)

lines_placed : (types : Types) (known : LocalTable) (n : ℕ) (ls : List raw_line.WrittenLine) → Gives (lines_in types known n ls) (Takes n ls)
lines_placed types known n [] = gives (Takes n []) [] refl
lines_placed types known n (l ∷ ls) =
    bind (λ i. Unit {0}) (Takes n (l ∷ ls)) (instr_in types known l.instr) (λ i. lines_in types known (behind_line n l) ls >>= λ more. Ok (record { local = local_at n l; instr = i } ∷ more)) (record { given = λ i is. tt }) (λ i _.
    bind (Takes (behind_line n l) ls) (Takes n (l ∷ ls)) (lines_in types known (behind_line n l) ls) (λ more. Ok (record { local = local_at n l; instr = i } ∷ more)) (lines_placed types known (behind_line n l) ls) (λ more e.
    gives (Takes n (l ∷ ls)) (record { local = local_at n l; instr = i } ∷ more) (by i more (is_defined l) e)))
  where
    by : (i : Instr) (more : List Line) (b : Bool) → Takes (if b then n + 1 else n) ls more
        → results (record { local = if b then Some n else None; instr = i } ∷ more) ≡ positions Value n (line_sorts b ++ lines_sorts ls)
    by i more true e = ap (λ (ns : List ℕ). n ∷ ns) e
    by i more false e = e

-- the phis that stand first and the lines behind them define what the lines do
pub in_body : (ls : List Line) → map (λ p. p.local) (phis_of ls) ++ results (rest_of ls) ≡ results ls
in_body [] = refl
in_body (l ∷ ls) = by l.local l.instr (in_body ls)
  where
    by : (o : Option ℕ) (i : Instr) → map (λ p. p.local) (phis_of ls) ++ results (rest_of ls) ≡ results ls
        → map (λ p. p.local) (phi_before (phi_of o i) (phis_of ls)) ++ results (lines_behind (phi_of o i) (record { local = o; instr = i } ∷ ls) (rest_of ls)) ≡ results (record { local = o; instr = i } ∷ ls)
    by (Some n) (ti.Phi reg incoming) h = ap (λ (ns : List ℕ). n ∷ ns) h
    by o i h = refl

abbrev Opens : ℕ → raw_block.Block → tree_block.Block → Type 0
Opens n b t = (t.number ≡ n) × (definitions t ≡ positions Value (n + 1) (lines_sorts b.lines))

block_placed : (types : Types) (known : LocalTable) (n : ℕ) (b : raw_block.Block) → Gives (block_in types known n b) (Opens n b)
unfolding block_of
block_placed types known n b =
    bind (λ body. map (λ p. p.local) body.phis ++ results body.lines ≡ positions Value (n + 1) (lines_sorts b.lines)) (Opens n b)
    (body_in types known (n + 1) b.lines) (λ body. end_in types known b.end >>= λ e. Ok (record { number = n; phis = body.phis; lines = body.lines; end = e }))
    (bind (Takes (n + 1) b.lines) (λ body. map (λ p. p.local) body.phis ++ results body.lines ≡ positions Value (n + 1) (lines_sorts b.lines)) (lines_in types known (n + 1) b.lines) (λ ls. Ok (body_of ls))
    (lines_placed types known (n + 1) b.lines) (λ ls e. gives (λ body. map (λ p. p.local) body.phis ++ results body.lines ≡ positions Value (n + 1) (lines_sorts b.lines)) (body_of ls) (in_body ls ∙ e)))
    (λ body e.
    bind (λ t. Unit {0}) (Opens n b) (end_in types known b.end) (λ t. Ok (record { number = n; phis = body.phis; lines = body.lines; end = t })) (record { given = λ t is. tt }) (λ t _.
    gives (Opens n b) (record { number = n; phis = body.phis; lines = body.lines; end = t }) (refl, e)))

pub record ArePlaced (n : ℕ) (bs : List raw_block.Block) (out : List tree_block.Block) : Type 0 where
  pub values : flat_map definitions out ≡ positions Value n (blocks_sorts bs)
  pub numbers : map (λ b. b.number) out ≡ positions Block n (blocks_sorts bs)

one_more : (n : ℕ) (b : raw_block.Block) (bs : List raw_block.Block) (t : tree_block.Block) (ts : List tree_block.Block) → Opens n b t → ArePlaced (behind_block n b) bs ts → ArePlaced n (b ∷ bs) (t ∷ ts)
one_more n b bs t ts one more = record { values = values; numbers = numbers }
  where
    next : behind_block n b ≡ n + 1 + length (lines_sorts b.lines)
    next = behind (n + 1) b.lines

    values : definitions t ++ flat_map definitions ts ≡ positions Value (n + 1) (lines_sorts b.lines ++ blocks_sorts bs)
    values =
        ap (λ (ns : List ℕ). ns ++ flat_map definitions ts) one.1 ∙ ap (λ (ns : List ℕ). positions Value (n + 1) (lines_sorts b.lines) ++ ns) (more.values ∙ ap (λ (m : ℕ). positions Value m (blocks_sorts bs)) next)
        ∙ sym (positions_both Value (n + 1) (lines_sorts b.lines) (blocks_sorts bs))

    later : positions Block (n + 1) (lines_sorts b.lines ++ blocks_sorts bs) ≡ positions Block (behind_block n b) (blocks_sorts bs)
    later =
        positions_both Block (n + 1) (lines_sorts b.lines) (blocks_sorts bs) ∙ ap (λ (ns : List ℕ). ns ++ positions Block (n + 1 + length (lines_sorts b.lines)) (blocks_sorts bs)) (no_blocks_of_lines (n + 1) b.lines)
        ∙ ap (λ (m : ℕ). positions Block m (blocks_sorts bs)) (sym next)

    numbers : t.number ∷ map (λ b. b.number) ts ≡ n ∷ positions Block (n + 1) (lines_sorts b.lines ++ blocks_sorts bs)
    numbers = ap (λ (m : ℕ). m ∷ map (λ b. b.number) ts) one.0 ∙ ap (λ (ns : List ℕ). n ∷ ns) (more.numbers ∙ sym later)

pub blocks_placed : (types : Types) (known : LocalTable) (n : ℕ) (bs : List raw_block.Block) → Gives (blocks_in types known n bs) (ArePlaced n bs)
blocks_placed types known n [] = gives (ArePlaced n []) [] (record { values = refl; numbers = refl })
blocks_placed types known n (b ∷ bs) =
    bind (Opens n b) (ArePlaced n (b ∷ bs)) (block_in types known n b) (λ t. blocks_in types known (behind_block n b) bs >>= λ ts. Ok (t ∷ ts)) (block_placed types known n b) (λ t one.
    bind (ArePlaced (behind_block n b) bs) (ArePlaced n (b ∷ bs)) (blocks_in types known (behind_block n b) bs) (λ ts. Ok (t ∷ ts)) (blocks_placed types known (behind_block n b) bs) (λ ts more.
    gives (ArePlaced n (b ∷ bs)) (t ∷ ts) (one_more n b bs t ts one more)))

-- ---- both lists of numbers, of all that is defined

-- the parameters and the blocks behind them
pub values_placed : (params : List raw_param.Param) (blocks : List raw_block.Block) (out : List tree_block.Block) → ArePlaced (length params) blocks out
    → map (λ p. p.local) (params_from 0 params) ++ flat_map definitions out ≡ positions Value 0 (text_sorts params blocks)
values_placed params blocks out h =
    ap (λ (ns : List ℕ). ns ++ flat_map definitions out) (params_placed 0 params)
    ∙ ap (λ (ns : List ℕ). positions Value 0 (params_sorts params) ++ ns) (h.values ∙ ap (λ (m : ℕ). positions Value m (blocks_sorts blocks)) (let long : length (params_sorts params) ≡ length params = params_long params in omega (arith, long)))
    ∙ sym (positions_both Value 0 (params_sorts params) (blocks_sorts blocks))

pub numbers_placed : (params : List raw_param.Param) (blocks : List raw_block.Block) (out : List tree_block.Block) → ArePlaced (length params) blocks out
    → map (λ b. b.number) out ≡ positions Block 0 (text_sorts params blocks)
numbers_placed params blocks out h =
    h.numbers ∙ ap (λ (m : ℕ). positions Block m (blocks_sorts blocks)) (let long : length (params_sorts params) ≡ length params = params_long params in omega (arith, long))
    ∙ ap (λ (ns : List ℕ). ns ++ positions Block (0 + length (params_sorts params)) (blocks_sorts blocks)) (sym (no_blocks_of_params 0 params))
    ∙ sym (positions_both Block 0 (params_sorts params) (blocks_sorts blocks))
