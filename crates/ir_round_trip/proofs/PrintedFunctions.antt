-- Printed functions resolve to themselves.
use Rattle.std.proofs.Common.{◌≡◌, ℕ, suc, ◌+◌, Bool, true, false, ◌||◌, Option, Ok, List, [], ◌∷◌, ◌++◌, length, refl, sym, ap, subst, ◌∙◌, append_assoc, append-nil, arith}
use Rattle.std.specs.List.{AllByRecursion as Each}
use Rattle.ir_parse_values.specs.Blocks.{params_from, blocks_of, function_in}
use Rattle.ir_parse_names.specs.Groups.{any_of, is_noinline, is_optnone}
use Rattle.ir_parse_names.specs.Locals.{with_name}
use Rattle.ir_parse_names.specs.Numbering.{with_params, with_blocks, locals_of}
use Rattle.ir_parse_names.specs.Symbols.{symbol_of}
use Rattle.ir_parse_names.specs.Types.{Types}
use Rattle.ir_parse_names.specs.declared.groups.Groups.{Groups}
use Rattle.ir_parse_names.specs.declared.locals.Sort.{Sort}
use Rattle.ir_parse_names.specs.declared.locals.Sort.TheVariants.{Value}
use Rattle.ir_lex.specs.Tok.{Tok}
use Rattle.ir_parse_parts.specs.declared.raw.Block as raw_block
use Rattle.ir_parse_parts.specs.declared.raw.FunctionHeader.{FunctionHeader}
use Rattle.ir_parse_parts.specs.declared.raw.Param as raw_param
use Rattle.ir_tree.specs.Formed.{DeclarationFormed}
use Rattle.ir_tree.specs.declared.block.Block as tree_block
use Rattle.ir_tree.specs.declared.function.Function.{Function}
use Rattle.ir_tree.specs.declared.function.Linkage.{Linkage}
use Rattle.ir_tree.specs.declared.function.Param.{Param}
use Rattle.ir_tree.specs.declared.instr.Line.{Line}
use Rattle.ir_tree.specs.declared.operand.Reg.{Reg}
use Rattle.ir_tree.specs.declared.operand.Symbol.{Symbol}
use Rattle.ir_round_trip.specs.Printed.{IsDefined, AreBlocks}
use Rattle.ir_round_trip.specs.Readable.{BlockReadable, BodyReadable, DefinitionReadable}
use Rattle.ir_round_trip.proofs.Binds.{bound}
use Rattle.ir_round_trip.proofs.ResolvedBlocks.{blocks_again}
use Rattle.ir_round_trip.proofs.PrintedNumbering.{BlockFormed, LineFormed, locals_again, unnamed_more}
use Rattle.ir_round_trip.proofs.Symbols.{symbol_again}
use Rattle.ir_round_trip.proofs.Uses.{known_with}
use Rattle.ir_round_trip.specs.PrintedKnown.{LineKnown, BlockKnown, FunctionKnown}
use Rattle.ir_round_trip.specs.Sorts.{params_sorts, sorts, ParamsFollow, BlocksFollow, past_params}
use Rattle.ir_round_trip.specs.PartsPrinted.{Paired, IsParam, IsType, IsDeclared}
use Rattle.ir_round_trip.specs.PartsReadable.{HeadReadable}

-- ---- parameters

long_pairs : {A B : Type 0} (R : A → B → Type 0) (as' : List A) (bs : List B) → Paired R as' bs → length bs ≡ length as'
long_pairs R [] [] p = refl
long_pairs R [] (b ∷ bs) p = absurd p
long_pairs R (a ∷ as') [] p = absurd p
long_pairs R (a ∷ as') (b ∷ bs) p = ap suc (long_pairs R as' bs p.1)

past_all : (n : ℕ) (ps : List Param) → past_params n ps ≡ n + length ps
past_all n [] = omega arith
past_all n (p ∷ ps) = past_all (n + 1) ps ∙ omega arith

-- parameters of these types take the numbers of their places
params_again : (R : Param → raw_param.Param → Type 0) → ((p : Param) (r : raw_param.Param) → R p r → r.reg ≡ p.reg) → (n : ℕ) (ps : List Param) (rs : List raw_param.Param) → ParamsFollow n ps → Paired R ps rs → params_from n rs ≡ ps
params_again R reg n [] [] f p = refl
params_again R reg n [] (r ∷ rs) f p = absurd p
params_again R reg n (q ∷ ps) [] f p = absurd p
params_again R reg n (q ∷ ps) (r ∷ rs) f p =
    ap (λ (g : Reg). record { local = n; reg = g } ∷ params_from (n + 1) rs) (reg q r p.0)
    ∙ ap (λ (m : ℕ). record { local = m; reg = q.reg } ∷ params_from (n + 1) rs) (sym f.0)
    ∙ ap (λ (more : List Param). q ∷ more) (params_again R reg (n + 1) ps rs f.1 p.1)

-- ---- attributes

said_once : (groups : List (List ℕ)) (says : Bool) (named : List Tok) → named ≡ [] → says || any_of groups named ≡ says
said_once groups says named none = ap (λ (ts : List Tok). says || any_of groups ts) none ∙ by says
  where
    by : (b : Bool) → b || false ≡ b
    by true = refl
    by false = refl

-- ---- whole functions

-- a function is its parts
made : (types : Types) (f : Function) (h : FunctionHeader) (blocks : List raw_block.Block) (noinline optnone : Bool) → blocks_of types h.params blocks ≡ Ok f.blocks → symbol_of h.name ≡ f.symbol → h.linkage ≡ f.linkage → h.result ≡ f.result → params_from 0 h.params ≡ f.params → noinline ≡ f.noinline → optnone ≡ f.optnone
    → function_in types h blocks noinline optnone ≡ Ok f
unfolding function_in
made types f h blocks noinline optnone b s l r p n o =
    bound _ b
    (ap (λ (x : Symbol). Ok (record { symbol = x; linkage = h.linkage; result = h.result; params = params_from 0 h.params; noinline = noinline; optnone = optnone; blocks = f.blocks })) s
    ∙ ap (λ (x : Linkage). Ok (record { symbol = f.symbol; linkage = x; result = h.result; params = params_from 0 h.params; noinline = noinline; optnone = optnone; blocks = f.blocks })) l
    ∙ ap (λ (x : Option Reg). Ok (record { symbol = f.symbol; linkage = f.linkage; result = x; params = params_from 0 h.params; noinline = noinline; optnone = optnone; blocks = f.blocks })) r
    ∙ ap (λ (x : List Param). Ok (record { symbol = f.symbol; linkage = f.linkage; result = f.result; params = x; noinline = noinline; optnone = optnone; blocks = f.blocks })) p
    ∙ ap (λ (x : Bool). Ok (record { symbol = f.symbol; linkage = f.linkage; result = f.result; params = f.params; noinline = x; optnone = optnone; blocks = f.blocks })) n
    ∙ ap (λ (x : Bool). Ok (record { symbol = f.symbol; linkage = f.linkage; result = f.result; params = f.params; noinline = f.noinline; optnone = x; blocks = f.blocks })) o)

body_readable : (bs : List tree_block.Block) → BodyReadable bs → Each BlockReadable bs
body_readable [] h = absurd h
body_readable (b ∷ bs) h = h

results_formed : (ss : List Sort) (ls : List Line) → Each (LineKnown ss) ls → Each LineFormed ls
results_formed ss [] h = tt
results_formed ss (l ∷ ls) h = (h.0.result, results_formed ss ls h.1)

blocks_formed : (ss : List Sort) (bs : List tree_block.Block) → Each (BlockKnown ss) bs → Each BlockFormed bs
blocks_formed ss [] h = tt
blocks_formed ss (b ∷ bs) h = (results_formed ss _ h.0.lines, blocks_formed ss bs h.1)

body_again : (types : Types) (room : ℕ) (f : Function) (params : List raw_param.Param) (blocks : List raw_block.Block) → DefinitionReadable room f → FunctionKnown f → Paired IsParam f.params params → AreBlocks f.blocks blocks → blocks_of types params blocks ≡ Ok f.blocks
body_again types room f params blocks h k p b =
    let readable = body_readable f.blocks h.body in
    let past : past_params 0 f.params ≡ 0 + length f.params = past_all 0 f.params in
    let long : length params ≡ length f.params = long_pairs IsParam f.params params p in
    let next : past_params 0 f.params ≡ length params = omega (arith, past, long) in
    bound _ (locals_again f.params f.blocks params blocks h.head.params readable (blocks_formed (sorts f) f.blocks k.blocks) k.numbered.0 k.numbered.1 p b)
    (blocks_again types (sorts f) (length params) f.blocks blocks readable k.blocks
    (subst (λ (n : ℕ). BlocksFollow n f.blocks) next k.numbered.1) b)

pub definition_again : (types : Types) (groups : Groups) (room : ℕ) (f : Function) (h : FunctionHeader) (blocks : List raw_block.Block) → DefinitionReadable room f → FunctionKnown f → IsDefined f h → AreBlocks f.blocks blocks → function_in types h blocks (is_noinline groups h) (is_optnone groups h) ≡ Ok f
definition_again types groups room f h blocks r k d b =
    made types f h blocks (is_noinline groups h) (is_optnone groups h) (body_again types room f h.params blocks r k d.params b) (symbol_again f.symbol h.name k.home r.head.name d.name) d.linkage d.result
    (params_again IsParam (λ p q i. i.0) 0 f.params h.params k.numbered.0 d.params)
    (said_once groups.noinline h.noinline h.groups d.groups ∙ d.noinline) (said_once groups.optnone h.optnone h.groups d.groups ∙ d.optnone)

-- ---- declarations

-- parameters without names
types_known : (ss : List Sort) (ps : List Param) (rs : List raw_param.Param) → Paired IsType ps rs → with_params (known_with ss) rs ≡ Ok (known_with (ss ++ params_sorts ps))
types_known ss [] [] p = ap (λ (more : List Sort). Ok (known_with more)) (sym (append-nil ss))
types_known ss [] (r ∷ rs) p = absurd p
types_known ss (q ∷ ps) [] p = absurd p
types_known ss (q ∷ ps) (r ∷ rs) p =
    bound (λ k. with_params k rs) (ap (λ (name : Option Tok). with_name (known_with ss) name Value) p.0.1 ∙ unnamed_more ss Value)
    (types_known (ss ++ Value ∷ []) ps rs p.1 ∙ ap (λ (more : List Sort). Ok (known_with more)) (append_assoc ss (Value ∷ []) (params_sorts ps)))

no_blocks : (types : Types) (ps : List Param) (rs : List raw_param.Param) → Paired IsType ps rs → blocks_of types rs [] ≡ Ok []
unfolding locals_of
no_blocks types ps rs p = bound _ (bound (λ k. with_blocks k []) (types_known [] ps rs p) refl) refl

pub declaration_again : (types : Types) (groups : Groups) (room : ℕ) (f : Function) (h : FunctionHeader) → f.blocks ≡ [] → DeclarationFormed f → HeadReadable room f → FunctionKnown f → IsDeclared f h → function_in types h [] (is_noinline groups h) (is_optnone groups h) ≡ Ok f
declaration_again types groups room f h none formed r k d =
    made types f h [] (is_noinline groups h) (is_optnone groups h) (no_blocks types f.params h.params d.params ∙ ap (λ (bs : List tree_block.Block). Ok bs) (sym none)) (symbol_again f.symbol h.name k.home r.name d.name) (d.linkage ∙ sym formed.0) d.result
    (params_again IsType (λ p q i. i.0) 0 f.params h.params k.numbered.0 d.params)
    (said_once groups.noinline h.noinline h.groups d.groups ∙ d.noinline ∙ sym formed.1) (said_once groups.optnone h.optnone h.groups d.groups ∙ d.optnone ∙ sym formed.2)
