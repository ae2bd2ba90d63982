-- What a variable uses once its names are resolved is known where what its text uses is.
use Rattle.std.proofs.Common.{◌≡◌, ℕ, if◌then◌else◌, List, [], ◌∷◌, ◌++◌, Option, Some, None, Ok, refl}
use Rattle.std.specs.Prelude.{All}
use Rattle.std.specs.List.{AllByRecursion as Each}
use Rattle.std.proofs.lemmas.List.Elements.{All-from_recursion, All-nil}
use Rattle.ir_lex.specs.Quotes.{content}
use Rattle.ir_parse_parts.specs.declared.raw.Init as raw_init
use Rattle.ir_parse_parts.specs.declared.raw.InitHead as raw_head
use Rattle.ir_parse_parts.specs.declared.raw.InitHead.TheVariants as rh
use Rattle.ir_parse_parts.specs.declared.raw.InitPart as raw_part
use Rattle.ir_parse_parts.specs.declared.raw.InitPart.TheVariants as rp
use Rattle.ir_parse_parts.specs.declared.raw.Variable as raw_variable
use Rattle.ir_lex.specs.Tok.{Tok}
use Rattle.ir_parse_parts.specs.Literals.{literal}
use Rattle.ir_tree.specs.Forms.{Form, int, pointer, array, structure}
use Rattle.ir_tree.specs.Initials.{Initial, Initials, Levels, around, begun, headed, levels, read, tree_of}
use Rattle.ir_tree.specs.Layout.{align}
use Rattle.ir_tree.specs.Wholes.{IsKnown, all_operands, init_operands, initial_operands}
use Rattle.ir_tree.specs.declared.function.Variable.{Variable}
use Rattle.ir_tree.specs.declared.init_node.InitHead.{InitHead}
use Rattle.ir_tree.specs.declared.init_node.InitHead.TheVariants as th
use Rattle.ir_tree.specs.declared.init_node.InitPart.{InitPart}
use Rattle.ir_tree.specs.declared.init_node.InitPart.TheVariants as tp
use Rattle.ir_tree.specs.declared.operand.Operand.{Operand}
use Rattle.ir_tree.specs.declared.operand.Operand.TheVariants as to
use Rattle.ir_tree.specs.declared.operand.Symbol.{Symbol}
use Rattle.ir_parse_names.specs.Bodies.{align_or}
use Rattle.ir_parse_names.specs.Locals.{none_known}
use Rattle.ir_parse_names.specs.Marks.{all, head_marks, init_marks, part_marks, typed_marks, uses}
use Rattle.ir_parse_names.specs.Resolving.{◌>>=◌}
use Rattle.ir_parse_names.specs.Symbols.{symbol_of}
use Rattle.ir_parse_names.specs.Types.{Types, is_width, expanded}
use Rattle.ir_parse_names.specs.Variables.{constant_for, head_in, init_if, init_in, literal_or, number_for, part_in, variable_in}
use Rattle.ir_parse.proofs.Gives.{Gives, gives, bind, bind_each, whatever}
use Rattle.ir_parse.proofs.Marked.{MarkKnown, MarksKnown, front_of, back_of, each_of}
use Rattle.ir_parse.proofs.KnownFunctions.{operand_known}

module _ (known : List Symbol) where
  -- ---- what stands in an initialiser

  abbrev HeadKnown : InitHead → Type 0
  HeadKnown (th.Plain operand) = IsKnown known operand
  HeadKnown _ = Unit {0}

  abbrev PartKnown : InitPart → Type 0
  PartKnown (tp.Typed shape head) = HeadKnown head
  PartKnown tp.End = Unit {0}

  for_known : (f : Form) (x : Operand) → IsKnown known x → IsKnown known (constant_for f x)
  for_known f (to.Poison reg) h = tt
  for_known f x h = h

  number_known : (f : Form) (t : Tok) → IsKnown known (number_for f t)
  number_known (int w) t = by (if is_width w then literal w t.text else None)
    where
      by : (o : Option ℕ) → IsKnown known (literal_or w o)
      by None = tt
      by (Some bits) = tt
  number_known pointer t = tt
  number_known (array n of) t = tt
  number_known (structure packed parts) t = tt

  head_known : (types : Types) (f : Form) (h : raw_head.InitHead) → MarksKnown known (head_marks h) → Gives (head_in types none_known f h) HeadKnown
  head_known types f (rh.Plain operand) w = bind (IsKnown known) HeadKnown _ _ (operand_known types none_known known operand w) (λ o g. gives HeadKnown (th.Plain (constant_for f o)) (for_known f o g))
  head_known types f rh.Zeros w = gives HeadKnown th.Zeros tt
  head_known types f (rh.Bytes string) w = gives HeadKnown (th.Bytes (content string.form string.text)) tt
  head_known types f (rh.Number t) w = gives HeadKnown (th.Plain (number_for f t)) (number_known f t)
  head_known types f rh.Array w = gives HeadKnown th.Array tt
  head_known types f (rh.Struct packed) w = gives HeadKnown (th.Struct packed) tt

  part_known : (types : Types) (p : raw_part.InitPart) → MarksKnown known (part_marks p) → Gives (part_in types none_known p) PartKnown
  part_known types (rp.Typed typed head) w =
      bind _ PartKnown _ _ (whatever (expanded types typed)) (λ f _.
      bind HeadKnown PartKnown _ _ (head_known types f head (back_of (MarkKnown known) (uses typed.shape) (head_marks head) w.1)) (λ h g. gives PartKnown (tp.Typed f h) g))
  part_known types rp.End w = gives PartKnown tp.End tt

  -- ---- the tree of the parts

  abbrev AllKnown : Initials → Type 0
  AllKnown vs = Each (IsKnown known) (all_operands vs)

  abbrev LevelsKnown : Levels → Type 0
  LevelsKnown l = AllKnown l.0 × Each AllKnown l.1

  joined : (xs ys : List Operand) → Each (IsKnown known) xs → Each (IsKnown known) ys → Each (IsKnown known) (xs ++ ys)
  joined [] ys h g = g
  joined (x ∷ xs) ys h g = (h.0, joined xs ys h.1 g)

  around_known : (ls : List Initials) → Each AllKnown ls → LevelsKnown (around ls)
  around_known [] h = (tt, tt)
  around_known (vs ∷ more) h = h

  begun_known : (f : Form) (h : InitHead) (l : Levels) → HeadKnown h → LevelsKnown l → LevelsKnown (begun f h l)
  begun_known f (th.Plain operand) l h g = ((h, g.0), g.1)
  begun_known f th.Zeros l h g = g
  begun_known f (th.Bytes text) l h g = g
  begun_known f th.Array l h g = let out : LevelsKnown (around l.1) = around_known l.1 g.1 in (joined (all_operands l.0) (all_operands (around l.1).0) g.0 out.0, out.1)
  begun_known f (th.Struct packed) l h g = let out : LevelsKnown (around l.1) = around_known l.1 g.1 in (joined (all_operands l.0) (all_operands (around l.1).0) g.0 out.0, out.1)

  read_known : (p : InitPart) (l : Levels) → PartKnown p → LevelsKnown l → LevelsKnown (read p l)
  read_known (tp.Typed f head) l h g = begun_known f head l h g
  read_known tp.End l h g = (tt, g)

  levels_known : (ps : List InitPart) → Each PartKnown ps → LevelsKnown (levels ps)
  levels_known [] h = (tt, tt)
  levels_known (p ∷ ps) h = read_known p (levels ps) h.0 (levels_known ps h.1)

  tree_known : (root : InitHead) (vs : Initials) → HeadKnown root → AllKnown vs → Each (IsKnown known) (initial_operands (headed root vs))
  tree_known (th.Plain operand) vs h g = (h, tt)
  tree_known th.Zeros vs h g = tt
  tree_known (th.Bytes text) vs h g = tt
  tree_known th.Array vs h g = g
  tree_known (th.Struct packed) vs h g = g

  abbrev InitialKnown : Initial → Type 0
  InitialKnown v = Each (IsKnown known) (initial_operands v)

  initial_known : (types : Types) (f : Form) (i : raw_init.Init) → MarksKnown known (init_marks (Some i)) → Gives (init_in types f i) InitialKnown
  unfolding init_in
  initial_known types f i w =
      bind HeadKnown InitialKnown _ _ (head_known types f i.root (front_of (MarkKnown known) (head_marks i.root) (all part_marks i.parts) w)) (λ root h.
      bind (Each PartKnown) InitialKnown _ _
      (bind_each (λ (p : raw_part.InitPart). MarksKnown known (part_marks p)) PartKnown (part_in types none_known) (part_known types) i.parts (each_of known part_marks i.parts (back_of (MarkKnown known) (head_marks i.root) (all part_marks i.parts) w)))
      (λ parts g. gives InitialKnown (tree_of (root, parts)) (tree_known root (levels parts).0 h (levels_known parts g).0)))

  -- ---- variables

  abbrev InitKnown : Option Initial → Type 0
  InitKnown i = All (IsKnown known) (init_operands i)

  init_known : (types : Types) (f : Form) (written : Option raw_init.Init) → MarksKnown known (init_marks written) → Gives (init_if types f written) InitKnown
  init_known types f None w = gives InitKnown None (All-nil (IsKnown known))
  init_known types f (Some i) w =
      bind InitialKnown InitKnown _ _ (initial_known types f i w) (λ v h. gives InitKnown (Some v) (All-from_recursion (IsKnown known) (initial_operands v) h))

  abbrev pub VariableKnown : Variable → Type 0
  VariableKnown v = All (IsKnown known) (init_operands v.init)

  pub variable_known : (types : Types) (v : raw_variable.Variable) → MarksKnown known (typed_marks v.typed ++ init_marks v.init) → Gives (variable_in types v) VariableKnown
  unfolding variable_in
  variable_known types v w =
      bind _ VariableKnown (expanded types v.typed)
      (λ f. init_if types f v.init >>= λ i. Ok (record { symbol = symbol_of v.name; linkage = v.linkage; constant = v.constant; shape = f; init = i; align = align_or (align f) v.align }))
      (whatever (expanded types v.typed)) (λ f _.
      bind InitKnown VariableKnown (init_if types f v.init)
      (λ i. Ok (record { symbol = symbol_of v.name; linkage = v.linkage; constant = v.constant; shape = f; init = i; align = align_or (align f) v.align }))
      (init_known types f v.init (back_of (MarkKnown known) (uses v.typed.shape) (init_marks v.init) w.1)) (λ i h.
      gives VariableKnown (record { symbol = symbol_of v.name; linkage = v.linkage; constant = v.constant; shape = f; init = i; align = align_or (align f) v.align }) h))

-- its symbol is that of its name
pub variable_symbol : (types : Types) (v : raw_variable.Variable) → Gives (variable_in types v) (λ r. r.symbol ≡ symbol_of v.name)
unfolding variable_in
variable_symbol types v =
    bind _ (λ (r : Variable). r.symbol ≡ symbol_of v.name) (expanded types v.typed)
    (λ f. init_if types f v.init >>= λ i. Ok (record { symbol = symbol_of v.name; linkage = v.linkage; constant = v.constant; shape = f; init = i; align = align_or (align f) v.align }))
    (whatever (expanded types v.typed)) (λ f _.
    bind _ (λ (r : Variable). r.symbol ≡ symbol_of v.name) (init_if types f v.init)
    (λ i. Ok (record { symbol = symbol_of v.name; linkage = v.linkage; constant = v.constant; shape = f; init = i; align = align_or (align f) v.align }))
    (whatever (init_if types f v.init)) (λ i _.
    gives (λ (r : Variable). r.symbol ≡ symbol_of v.name) (record { symbol = symbol_of v.name; linkage = v.linkage; constant = v.constant; shape = f; init = i; align = align_or (align f) v.align }) refl))
