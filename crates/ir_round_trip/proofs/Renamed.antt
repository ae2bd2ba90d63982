-- Under other names for symbols a value stays within the grammar's limits, its locals stay numbered along the text, and its strings stay
-- bytes.
use Rattle.std.proofs.Common.{◌≡◌, ◌∙◌, ℕ, suc, ◌+◌, ◌≤◌, List, [], ◌∷◌, ◌++◌, length, map, Option, Some, None, option_map, refl, ap, sym, subst}
use Rattle.std.specs.Prelude.{All}
use Rattle.std.proofs.lemmas.List.{length-map}
use Rattle.std.proofs.lemmas.List.Elements.{All-map}
use Rattle.ir_parse_bodies.specs.Blocks.{FURTHER_BLOCKS, INSTRUCTIONS}
use Rattle.ir_tree.specs.Initials.{Initial, Initials, plain, zeros, bytes, elements, members, no_initials, initial}
use Rattle.ir_tree.specs.Items.{Item, phi_item, line_item, end_item, items, operands}
use Rattle.ir_tree.specs.Wholes.{global_symbol, init_operands}
use Rattle.ir_tree.specs.declared.block.Block.{Block}
use Rattle.ir_tree.specs.declared.function.Function.{Function}
use Rattle.ir_tree.specs.declared.function.Variable.{Variable}
use Rattle.ir_tree.specs.declared.instr.Incoming.{Incoming}
use Rattle.ir_tree.specs.declared.instr.Instr.{Instr}
use Rattle.ir_tree.specs.declared.instr.Instr.TheVariants as kind
use Rattle.ir_tree.specs.declared.instr.Line.{Line}
use Rattle.ir_tree.specs.declared.instr.Phi.{Phi}
use Rattle.ir_tree.specs.declared.module.GlobalValue.{GlobalValue}
use Rattle.ir_tree.specs.declared.module.GlobalValue.TheVariants as global
use Rattle.ir_tree.specs.declared.operand.Argument.{Argument}
use Rattle.ir_tree.specs.declared.operand.Operand.{Operand}
use Rattle.ir_tree.specs.declared.operand.Operand.TheVariants as operand
use Rattle.ir_tree.specs.Edited.{with_operands}
use Rattle.ir_meaning.specs.Refine.{Naming}
use Rattle.ir_meaning.specs.Rename.{argument_under, block_under, edge_under, line_under, operand_under, phi_under}
use Rattle.merge_meaning.specs.Globals.{function_under, global_under, initial_under, initials_under, named_by, variable_under}
use Rattle.merge_meaning.proofs.Sounds.{init_same, item_under, items_same, operands_same}
use Rattle.ir_round_trip.specs.Bodies.{instructions, phi_as_line, stated}
use Rattle.ir_round_trip.specs.Sorts.{BlocksFollow, LinesFollow, ResultFollows, past, past_lines, past_params}
use Rattle.ir_round_trip.specs.Numbered.{InitBytes, InitialBytes, InitialsBytes, LocalsNumbered, StringsAreBytes}
use Rattle.ir_round_trip.specs.Renamed.{NamesKeepSpelling}
use Rattle.ir_round_trip.specs.Within.{FunctionWithin, HasEntry, InstrWithin, ItemWithin, KindWithin, NameWithin, OffsetFits, ValueWithin, VariableWithin}

-- ---- numbers

-- what lines define
abbrev locals_of : List Line → List (Option ℕ)
locals_of ls = map (λ l. l.local) ls

lines_follow : (n : ℕ) (ls ks : List Line) → locals_of ks ≡ locals_of ls → LinesFollow n ls → LinesFollow n ks
lines_follow n [] [] e f = tt
lines_follow n [] (k ∷ ks) e f = absurd (cc e)
lines_follow n (l ∷ ls) [] e f = absurd (cc e)
lines_follow n (l ∷ ls) (k ∷ ks) e f =
    let head : k.local ≡ l.local = cc e in
    let rest : locals_of ks ≡ locals_of ls = cc e in
    (subst (λ (o : Option ℕ). ResultFollows n o) (sym head) f.0, lines_follow (past n k.local) ls ks rest (subst (λ (o : Option ℕ). LinesFollow (past n o) ls) (sym head) f.1))

past_same : (n : ℕ) (ls ks : List Line) → locals_of ks ≡ locals_of ls → past_lines n ks ≡ past_lines n ls
past_same n [] [] e = refl
past_same n [] (k ∷ ks) e = absurd (cc e)
past_same n (l ∷ ls) [] e = absurd (cc e)
past_same n (l ∷ ls) (k ∷ ks) e =
    let head : k.local ≡ l.local = cc e in
    let rest : locals_of ks ≡ locals_of ls = cc e in
    past_same (past n k.local) ls ks rest ∙ ap (λ (o : Option ℕ). past_lines (past n o) ls) head

module _ (t : Naming) where
  same_lines : (ls : List Line) → locals_of (map (line_under t) ls) ≡ locals_of ls
  same_lines [] = refl
  same_lines (l ∷ ls) = ap (λ (os : List (Option ℕ)). l.local ∷ os) (same_lines ls)

  same_stated : (ps : List Phi) (ls : List Line) → locals_of (map phi_as_line (map (phi_under t) ps) ++ map (line_under t) ls) ≡ locals_of (map phi_as_line ps ++ ls)
  same_stated [] ls = same_lines ls
  same_stated (p ∷ ps) ls = ap (λ (os : List (Option ℕ)). Some p.local ∷ os) (same_stated ps ls)

  blocks_follow : (n : ℕ) (bs : List Block) → BlocksFollow n bs → BlocksFollow n (map (block_under t) bs)
  blocks_follow n [] f = tt
  blocks_follow n (b ∷ bs) f =
      let same : locals_of (stated (block_under t b)) ≡ locals_of (stated b) = same_stated b.phis b.lines in (
        (f.0.0, lines_follow (n + 1) (stated b) (stated (block_under t b)) same f.0.1),
        subst (λ (k : ℕ). BlocksFollow k (map (block_under t) bs)) (sym (past_same (n + 1) (stated b) (stated (block_under t b)) same)) (blocks_follow (past_lines (n + 1) (stated b)) bs f.1),
      )

  pub locals_under : (g : GlobalValue) → LocalsNumbered g → LocalsNumbered (global_under t g)
  locals_under (global.Variable v) n = tt
  locals_under (global.Function f) n = (n.0, blocks_follow (past_params 0 f.params) f.blocks n.1)

  -- ---- strings

  mutual
    bytes_under : (v : Initial) → InitialBytes v → InitialBytes (initial_under t v)
    bytes_under (plain operand) b = tt
    bytes_under zeros b = tt
    bytes_under (bytes text) b = b
    bytes_under (elements parts) b = all_bytes_under parts b
    bytes_under (members packed parts) b = all_bytes_under parts b

    all_bytes_under : (vs : Initials) → InitialsBytes vs → InitialsBytes (initials_under t vs)
    all_bytes_under no_initials b = tt
    all_bytes_under (initial f v vs) b = (bytes_under v b.0, all_bytes_under vs b.1)

  pub strings_under : (g : GlobalValue) → StringsAreBytes g → StringsAreBytes (global_under t g)
  strings_under (global.Function f) b = tt
  strings_under (global.Variable v) b = by v.init b
    where
      by : (o : Option Initial) → InitBytes o → InitBytes (option_map (initial_under t) o)
      by None b = tt
      by (Some value) b = bytes_under value b

  -- ---- limits

  offset_under : (o : Operand) → OffsetFits o → OffsetFits (operand_under t o)
  offset_under (operand.Local n) h = h
  offset_under (operand.Number w bits) h = h
  offset_under operand.Null h = h
  offset_under (operand.Poison reg) h = h
  offset_under (operand.Symbol s offset) h = h

  entry_under : (es : List Incoming) → HasEntry es → HasEntry (map (edge_under t) es)
  entry_under [] h = h
  entry_under (e ∷ es) h = tt

  instr_within : (i : Instr) → InstrWithin i → InstrWithin (with_operands (operand_under t) i)
  instr_within (kind.Binary op flags width left right) h = tt
  instr_within (kind.Icmp predicate reg left right) h = tt
  instr_within (kind.Cast op from value to) h = tt
  instr_within (kind.Select condition if_true if_false) h = tt
  instr_within (kind.Freeze reg value) h = tt
  instr_within (kind.Alloca shape align) h = h
  instr_within (kind.Load reg address align) h = tt
  instr_within (kind.Store reg value address align) h = tt
  instr_within (kind.Address inbounds shape base indices) h = h
  instr_within (kind.Call result callee arguments) h = tt
  instr_within (kind.Phi reg incoming) h = entry_under incoming h

  kind_within : (item : Item) → KindWithin item → KindWithin (item_under t item)
  kind_within (phi_item b phi) h = entry_under phi.incoming h
  kind_within (line_item b k l) h = instr_within l.instr h
  kind_within (end_item b e) h = tt

  item_within : (item : Item) → ItemWithin item → ItemWithin (item_under t item)
  item_within item h = record {
    offsets = subst (All (λ (a : Argument). OffsetFits a.operand)) (sym (operands_same t item))
        (All-map (λ (a : Argument). OffsetFits a.operand) (argument_under t) (operands item) (λ k a lt. offset_under _ (h.offsets k a lt)));
    kind = kind_within item h.kind;
  }

  instructions_same : (bs : List Block) → instructions (map (block_under t) bs) ≡ instructions bs
  instructions_same [] = refl
  instructions_same (b ∷ bs) =
      let here : length (stated (block_under t b)) ≡ length (stated b) =
      sym (length-map (stated (block_under t b)) (λ (l : Line). l.local)) ∙ ap (λ (os : List (Option ℕ)). length os) (same_stated b.phis b.lines) ∙ length-map (stated b) (λ (l : Line). l.local) in
      let rest = instructions_same bs in
      λ i. here i + rest i

  function_within : (f : Function) → FunctionWithin f → FunctionWithin (function_under t f)
  function_within f h = record {
    few_parameters = h.few_parameters;
    few_blocks = subst (λ (n : ℕ). n ≤ suc FURTHER_BLOCKS) (sym (length-map f.blocks (block_under t))) h.few_blocks;
    few_instructions = subst (λ (n : ℕ). n ≤ INSTRUCTIONS) (sym (instructions_same f.blocks)) h.few_instructions;
    items = subst (All ItemWithin) (sym (items_same t f)) (All-map ItemWithin (item_under t) (items f) (λ k x lt. item_within _ (h.items k x lt)));
  }

  variable_within : (v : Variable) → VariableWithin v → VariableWithin (variable_under t v)
  variable_within v h = record {
    counts = h.counts;
    offsets = subst (All OffsetFits) (sym (init_same t v.init)) (All-map OffsetFits (operand_under t) (init_operands v.init) (λ k x lt. offset_under _ (h.offsets k x lt)));
  }

  pub within_under : (g : GlobalValue) → ValueWithin g → ValueWithin (global_under t g)
  within_under (global.Variable v) h = variable_within v h
  within_under (global.Function f) h = function_within f h

symbol_under : (t : Naming) (g : GlobalValue) → global_symbol (global_under t g) ≡ t.symbol (global_symbol g)
symbol_under t (global.Variable v) = refl
symbol_under t (global.Function f) = refl

pub names_keep_spelling : NamesKeepSpelling
names_keep_spelling name g s writable =
    let t = named_by name in
    record {
      name = subst NameWithin (sym (symbol_under t g)) writable;
      within = within_under t g s.within;
      locals = locals_under t g s.locals;
      strings = strings_under t g s.strings;
    }
