-- What is put off until a function is done, with the callee inlined at one call more.
use Rattle.std.proofs.Common.{◌≡◌, ◌≢◌, ℕ, ◌+◌, ◌<◌, ◌≤◌, ◌==◌, Bool, true, false, List, [], ◌∷◌, ◌++◌, All, Option, Some, None, map, option_map, length, refl, sym, ◌∙◌, ap, subst, arith, append_assoc, append-nil, map-id, if◌then◌else◌}
use Rattle.std.proofs.lemmas.Bool.{ne_eqb}
use Rattle.std.proofs.lemmas.List.{map-append}
use Rattle.std.proofs.lemmas.List.Elements.{All-head, All-nil, All-push, All-same, All-tail, All-weaker}
use Rattle.std.specs.Prelude.{option_to_list}
use Rattle.ir_meaning.specs.Program.{counted}
use Rattle.ir_tree.specs.Types.{argument_types}
use Rattle.ir_tree.specs.declared.block.Block.{Block}
use Rattle.ir_tree.specs.declared.block.Terminator.{Terminator}
use Rattle.ir_tree.specs.declared.block.Terminator.TheVariants.{Branch, Jump, Return, Switch, Unreachable}
use Rattle.ir_tree.specs.declared.function.Function.{Function}
use Rattle.ir_tree.specs.declared.function.Param.{Param}
use Rattle.ir_tree.specs.declared.instr.Incoming.{Incoming}
use Rattle.ir_tree.specs.declared.instr.Instr.{Instr}
use Rattle.ir_tree.specs.declared.instr.Instr.TheVariants.{Call}
use Rattle.ir_tree.specs.declared.instr.Line.{Line}
use Rattle.ir_tree.specs.declared.instr.Phi.{Phi}
use Rattle.ir_tree.specs.declared.operand.Argument.{Argument}
use Rattle.ir_tree.specs.declared.operand.Operand.{Operand}
use Rattle.ir_tree.specs.declared.operand.Operand.TheVariants.{Local, Null, Number, Poison, Symbol as Named}
use Rattle.ir_tree.specs.declared.operand.Reg.{Reg}
use Rattle.ir_tree.specs.Edited.{argument_edited, block_edited, edited, end_edited, incoming_edited, instr_edited, line_edited, phi_edited}
use Rattle.ir_edit.specs.Substituted.{operand_replaced, or_local, replacement, substituted}
use Rattle.ir_edit.specs.Numbered.{blocks_numbers, later_or}
use Rattle.inline_site.specs.Callers.{behind_open, IsReady, Inlines, counted_done, ended, entry_by, late_given, lost_of, made_of, name_in, named_by, next_in, opened_with, phi_by, poisons, with_names, without}
use Rattle.inline_site.specs.Copies.{behind_call, bound, copied, copied_number, copied_operand, first_free}
use Rattle.inline_site.specs.Inlined.{IsInlined, after_call, before_call, block_named, end_leading, entry_named, entry_of, inlined, leading_to, named, phi_named, result_given, result_phis, return_entries, return_entry, spliced}
use Rattle.inline_site.specs.Sites.{IsCallOf, Site, StandsAt, counted_in}
use Rattle.inline_site.specs.declared.caller.Caller.{Caller}
use Rattle.inline_site.specs.declared.late.Late.{Late}
use Rattle.inline_site.specs.declared.names.Halves.{Halves}
use Rattle.inline_site.specs.declared.names.Names.{Names}
use Rattle.inline_site.specs.declared.open.Open.{Open}
use Rattle.inline_site.proofs.Copied.{behind_is}
use Rattle.inline_site.proofs.Growing.{grown, old_local, old_number}
use Rattle.inline_site.proofs.Laid.{edited_same, end_leading_edited, same_blocks}
use Rattle.inline_site.proofs.Twice.{block_twice, blocks_twice}

-- ---- names

names_more : (hs : List Halves) (h : Halves) (n : ℕ) → named_by (hs ++ h ∷ []) n ≡ block_named h.block h.behind (named_by hs n)
names_more [] h n = refl
names_more (g ∷ hs) h n = names_more hs h (block_named g.block g.behind n)

-- numbers past those that are renamed stay
names_stay : (hs : List Halves) (free n : ℕ) → All (λ h. h.block < free) hs → free ≤ n → named_by hs n ≡ n
names_stay [] free n all le = refl
names_stay (h ∷ hs) free n all le =
    ap (named_by hs) (ap (λ (b : Bool). if b then h.behind else n) (ne_eqb n h.block (λ e. omega (arith, e, le, All-head (λ (k : Halves). k.block < free) h hs all))))
    ∙ names_stay hs free n (All-tail (λ (k : Halves). k.block < free) h hs all) le

-- ---- lost results

without_more : (rs : List (ℕ × Reg)) (r : ℕ × Reg) (o : Operand) → without (rs ++ r ∷ []) o ≡ operand_replaced (replacement ((r.0, Poison r.1) ∷ [])) (without rs o)
without_more [] r o = refl
without_more (q ∷ rs) r o = without_more rs r (operand_replaced (replacement ((q.0, Poison q.1) ∷ [])) o)

-- what no replacement changes stays
pub without_stays : (rs : List (ℕ × Reg)) (o : Operand) → ((v : ℕ → Option Operand) → operand_replaced v o ≡ o) → without rs o ≡ o
without_stays [] o h = refl
without_stays (r ∷ rs) o h = ap (without rs) (h (replacement ((r.0, Poison r.1) ∷ []))) ∙ without_stays rs o h

-- and so do locals past those that are lost
local_stays : (rs : List (ℕ × Reg)) (free n : ℕ) → All (λ r. r.0 < free) rs → free ≤ n → without rs (Local n) ≡ Local n
local_stays [] free n all le = refl
local_stays (r ∷ rs) free n all le =
    ap (λ (b : Bool). without rs (or_local (if b then Some (Poison r.1) else None) n)) (ne_eqb r.0 n (λ e. omega (arith, e, le, All-head (λ (q : ℕ × Reg). q.0 < free) r rs all)))
    ∙ local_stays rs free n (All-tail (λ (q : ℕ × Reg). q.0 < free) r rs all) le

-- ---- operands of the copy

later_changed : (op : Operand → Operand) (later : Option Operand) (b : Bool) (o : Operand) → later_or (option_map op later) (if b then Some (op o) else None) ≡ option_map op (later_or later (if b then Some o else None))
later_changed op (Some k) b o = refl
later_changed op None true o = refl
later_changed op None false o = refl

bound_changed : (op : Operand → Operand) (ps : List Param) (as' : List Argument) (x : ℕ) → replacement (bound ps (map (argument_edited op) as')) x ≡ option_map op (replacement (bound ps as') x)
bound_changed op [] as' x = refl
bound_changed op (p ∷ ps) [] x = refl
bound_changed op (p ∷ ps) (a ∷ more) x =
    ap (λ (later : Option Operand). later_or later (if p.local == x then Some (op a.operand) else None)) (bound_changed op ps more x)
    ∙ later_changed op (replacement (bound ps more) x) (p.local == x) a.operand

or_changed : (op : Operand → Operand) (n : ℕ) → op (Local n) ≡ Local n → (o : Option Operand) → op (or_local o n) ≡ or_local (option_map op o) n
or_changed op n same None = same
or_changed op n same (Some o) = refl

-- an argument that becomes poison does in the copy
operand_copied : (rs : List (ℕ × Reg)) (free : ℕ) (callee : Function) (as' : List Argument) → All (λ r. r.0 < free) rs → (o : Operand)
    → without rs (copied_operand free callee as' o) ≡ copied_operand free callee (map (argument_edited (without rs)) as') o
operand_copied rs free callee as' all (Local x) =
    or_changed (without rs) (copied_number free callee x) (local_stays rs free (copied_number free callee x) all (omega arith)) (replacement (bound callee.params as') x)
    ∙ ap (λ (o : Option Operand). or_local o (copied_number free callee x)) (sym (bound_changed (without rs) callee.params as' x))
operand_copied rs free callee as' all (Number width bits) = without_stays rs (Number width bits) (λ v. refl)
operand_copied rs free callee as' all Null = without_stays rs Null (λ v. refl)
operand_copied rs free callee as' all (Poison reg) = without_stays rs (Poison reg) (λ v. refl)
operand_copied rs free callee as' all (Named symbol offset) = without_stays rs (Named symbol offset) (λ v. refl)

-- ---- what stays of the caller

module _ (hs : List Halves) (h : Halves) (op : Operand → Operand) where
  entries_named : (es : List Incoming) → map (entry_named h.block h.behind) (map (incoming_edited (λ n. n) op) (map (entry_by (named_by hs)) es)) ≡ map (incoming_edited (λ n. n) op) (map (entry_by (named_by (hs ++ h ∷ []))) es)
  entries_named [] = refl
  entries_named (e ∷ es) = λ i. record { from = sym (names_more hs h e.from) i; value = op e.value } ∷ entries_named es i

  phis_named : (ps : List Phi) → map (phi_named h.block h.behind) (map (phi_edited (λ n. n) op) (map (phi_by (named_by hs)) ps)) ≡ map (phi_edited (λ n. n) op) (map (phi_by (named_by (hs ++ h ∷ []))) ps)
  phis_named [] = refl
  phis_named (p ∷ ps) = λ i. record { local = p.local; reg = p.reg; incoming = entries_named p.incoming i } ∷ phis_named ps i

  blocks_named : (bs : List Block) → map (named h.block h.behind) (map (block_edited (λ n. n) op) (map (with_names (named_by hs)) bs)) ≡ map (block_edited (λ n. n) op) (map (with_names (named_by (hs ++ h ∷ []))) bs)
  blocks_named [] = refl
  blocks_named (b ∷ bs) = λ i. record { number = b.number; phis = phis_named b.phis i; lines = map (line_edited (λ n. n) op) b.lines; end = end_edited (λ n. n) op b.end } ∷ blocks_named bs i

-- ---- the copy

module _ (name number : ℕ → ℕ) (same : (x : ℕ) → name (number x) ≡ number x) (op copy copy' : Operand → Operand) (put : (o : Operand) → op (copy o) ≡ copy' o) (behind : ℕ) where
  entries_copied : (es : List Incoming) → map (incoming_edited (λ n. n) op) (map (entry_by name) (map (incoming_edited number copy) es)) ≡ map (incoming_edited number copy') es
  entries_copied [] = refl
  entries_copied (e ∷ es) = λ i. record { from = same e.from i; value = put e.value i } ∷ entries_copied es i

  phis_copied : (ps : List Phi) → map (phi_edited (λ n. n) op) (map (phi_by name) (map (phi_edited number copy) ps)) ≡ map (phi_edited number copy') ps
  phis_copied [] = refl
  phis_copied (p ∷ ps) = λ i. record { local = number p.local; reg = p.reg; incoming = entries_copied p.incoming i } ∷ phis_copied ps i

  block_copied : (b : Block) → block_edited (λ n. n) op (block_edited number copy b) ≡ block_edited number copy' b
  block_copied b = block_twice (λ n. n) number op copy b ∙ (λ i. block_edited number (λ o. put o i) b)

  blocks_copied : (bs : List Block) → map (block_edited (λ n. n) op) (map (with_names name) (map (leading_to behind) (map (block_edited number copy) bs))) ≡ map (leading_to behind) (map (block_edited number copy') bs)
  blocks_copied [] = refl
  blocks_copied (b ∷ bs) =
      λ i. record {
        number = number b.number;
        phis = phis_copied b.phis i;
        lines = (block_copied b i).lines;
        end = (end_leading_edited behind op (end_edited number copy b.end) ∙ ap (λ (c : Block). end_leading behind c.end) (block_copied b)) i;
      } ∷ blocks_copied bs i

  returns_copied : (bs : List Block) → map (incoming_edited (λ n. n) op) (map (entry_by name) (return_entries (map (block_edited number copy) bs))) ≡ return_entries (map (block_edited number copy') bs)
  returns_copied [] = refl
  returns_copied (b ∷ bs) = by b.end (returns_copied bs)
    where
      by : (t : Terminator) → map (incoming_edited (λ n. n) op) (map (entry_by name) (return_entries (map (block_edited number copy) bs))) ≡ return_entries (map (block_edited number copy') bs)
          → map (incoming_edited (λ n. n) op) (map (entry_by name) (return_entry (number b.number) (end_edited number copy t) (return_entries (map (block_edited number copy) bs))))
          ≡ return_entry (number b.number) (end_edited number copy' t) (return_entries (map (block_edited number copy') bs))
      by (Return (Some a)) rest = λ i. record { from = same b.number i; value = put a.operand i } ∷ rest i
      by (Return None) rest = rest
      by (Jump target) rest = rest
      by (Branch condition if_true if_false) rest = rest
      by (Switch width value default cases) rest = rest
      by Unreachable rest = rest

  entry_copied : (bs : List Block) → entry_of (map (block_edited number copy) bs) ≡ entry_of (map (block_edited number copy') bs)
  entry_copied [] = refl
  entry_copied (b ∷ bs) = refl

results_copied : (name : ℕ → ℕ) (op : Operand → Operand) (l : Option ℕ) (r : Option Reg) (es : List Incoming)
    → map (phi_edited (λ n. n) op) (map (phi_by name) (result_phis l r es)) ≡ result_phis (option_map (λ n. n) l) r (map (incoming_edited (λ n. n) op) (map (entry_by name) es))
results_copied name op None r es = refl
results_copied name op (Some x) None es = refl
results_copied name op (Some x) (Some reg) [] = refl
results_copied name op (Some x) (Some reg) (e ∷ es) = refl

-- ---- counts

pub many_mapped : {X Y : Type 0} (f : X → Y) (xs : List X) → length (map f xs) ≡ length xs
many_mapped f [] = refl
many_mapped f (x ∷ xs) = let rest : length (map f xs) ≡ length xs = many_mapped f xs in omega (arith, rest)

pub late_counts : (name : ℕ → ℕ) (op : Operand → Operand) (bs : List Block) → counted_in (map (block_edited (λ n. n) op) (map (with_names name) bs)) ≡ counted_in bs
late_counts name op [] = refl
late_counts name op (b ∷ bs) =
    let phis : length (map (phi_edited (λ n. n) op) (map (phi_by name) b.phis)) ≡ length b.phis = many_mapped (phi_edited (λ n. n) op) (map (phi_by name) b.phis) ∙ many_mapped (phi_by name) b.phis in
    let lines : length (map (line_edited (λ n. n) op) b.lines) ≡ length b.lines = many_mapped (line_edited (λ n. n) op) b.lines in
    let rest : counted_in (map (block_edited (λ n. n) op) (map (with_names name) bs)) ≡ counted_in bs = late_counts name op bs in
    omega (arith, phis, lines, rest)

-- ---- the end

-- of poison for a result twice, that of the first call stays
last_replaced : (rs : List (ℕ × Operand)) (r : ℕ × Operand) (x : ℕ) → replacement (rs ++ r ∷ []) x ≡ later_or (if r.0 == x then Some r.1 else None) (replacement rs x)
last_replaced [] r x = by (r.0 == x)
  where
    by : (b : Bool) → later_or None (if b then Some r.1 else None) ≡ later_or (if b then Some r.1 else None) None
    by true = refl
    by false = refl
last_replaced (q ∷ rs) r x =
    ap (λ (later : Option Operand). later_or later (if q.0 == x then Some q.1 else None)) (last_replaced rs r x)
    ∙ by (r.0 == x)
  where
    by : (b : Bool) → later_or (later_or (if b then Some r.1 else None) (replacement rs x)) (if q.0 == x then Some q.1 else None) ≡ later_or (if b then Some r.1 else None) (later_or (replacement rs x) (if q.0 == x then Some q.1 else None))
    by true = refl
    by false = refl

at_once : (rs : List (ℕ × Reg)) (o : Operand) → operand_replaced (replacement (poisons rs)) o ≡ without rs o
at_once [] (Local x) = refl
at_once (r ∷ rs) (Local x) = ap (λ (v : Option Operand). or_local v x) (last_replaced (poisons rs) (r.0, Poison r.1) x) ∙ by (r.0 == x) (at_once rs (Local x))
  where
    by : (b : Bool) → operand_replaced (replacement (poisons rs)) (Local x) ≡ without rs (Local x)
        → or_local (later_or (if b then Some (Poison r.1) else None) (replacement (poisons rs) x)) x ≡ without rs (or_local (if b then Some (Poison r.1) else None) x)
    by true rest = sym (without_stays rs (Poison r.1) (λ v. refl))
    by false rest = rest
at_once rs (Number width bits) = sym (without_stays rs (Number width bits) (λ v. refl))
at_once rs Null = sym (without_stays rs Null (λ v. refl))
at_once rs (Poison reg) = sym (without_stays rs (Poison reg) (λ v. refl))
at_once rs (Named symbol offset) = sym (without_stays rs (Named symbol offset) (λ v. refl))

pub substituted_late : (rs : List (ℕ × Reg)) (f : Function) → substituted (poisons rs) f ≡ record f { blocks = map (block_edited (λ n. n) (without rs)) f.blocks }
substituted_late rs f = λ i. record f { params = map-id f.params i; blocks = map (block_edited (λ n. n) (λ o. at_once rs o i)) f.blocks }

nothing_replaced : (o : Operand) → operand_replaced (replacement []) o ≡ o
nothing_replaced (Local x) = refl
nothing_replaced (Number width bits) = refl
nothing_replaced Null = refl
nothing_replaced (Poison reg) = refl
nothing_replaced (Named symbol offset) = refl

-- where no result is lost
pub none_lost : (f : Function) (rs : List (ℕ × Reg)) → length rs ≡ 0 → f ≡ substituted (poisons rs) f
none_lost f [] e = sym ((λ i. edited (λ x. x) (λ o. nothing_replaced o i) f) ∙ edited_same f)
none_lost f (r ∷ rs) e = absurd (omega (arith, e))

pub done_late : (l : Late) (f g h : Function) (bs cs : List Block) → cs ≡ map (with_names (named_by l.halves.items)) bs → g ≡ record f { blocks = cs } → h ≡ substituted (poisons l.lost.items) g
    → h ≡ late_given l (record f { blocks = bs })
done_late l f g h bs cs names blocks lost =
    lost
    ∙ ap (substituted (poisons l.lost.items)) (blocks ∙ (λ i. record f { blocks = names i }))
    ∙ substituted_late l.lost.items (record f { blocks = map (with_names (named_by l.halves.items)) bs })

-- the names of the table are the last ones
pub renamed : (names : Names) (hs : List Halves) (bs : List Block) → ((n : ℕ) → name_in names n ≡ named_by hs n) → map (with_names (name_in names)) bs ≡ map (with_names (named_by hs)) bs
renamed names hs bs same = λ i. map (with_names (λ n. same n i)) bs

-- ---- the beginning

same_entries : (es : List Incoming) → map (entry_by (named_by [])) es ≡ es
same_entries es = map-id es

same_phis_names : (ps : List Phi) → map (phi_by (named_by [])) ps ≡ ps
same_phis_names [] = refl
same_phis_names (p ∷ ps) = λ i. record { local = p.local; reg = p.reg; incoming = same_entries p.incoming i } ∷ same_phis_names ps i

same_names : (bs : List Block) → map (with_names (named_by [])) bs ≡ bs
same_names [] = refl
same_names (b ∷ bs) = λ i. record { number = b.number; phis = same_phis_names b.phis i; lines = b.lines; end = b.end } ∷ same_names bs i

pub no_names : (hs : List Halves) (bs : List Block) → length hs ≡ 0 → bs ≡ map (with_names (named_by hs)) bs
no_names [] bs e = sym (same_names bs)
no_names (h ∷ hs) bs e = absurd (omega (arith, e))

pub made_first : (f : Function) (c : Caller) → c.done.items ≡ [] → c.late.halves.items ≡ [] → c.late.lost.items ≡ [] → made_of f c f.blocks ≡ f
made_first f c done halves lost =
    (λ i. record f { blocks = map (block_edited (λ n. n) (without (lost i))) (map (with_names (named_by (halves i))) (done i ++ f.blocks)) })
    ∙ (λ i. record f { blocks = (ap (map (block_edited (λ n. n) (without []))) (same_names f.blocks) ∙ same_blocks f.blocks) i })

pub ready_first : (f : Function) (c : Caller) → c.free ≡ first_free f → c.late.halves.items ≡ [] → c.late.lost.items ≡ [] → IsReady f c
ready_first f c free halves lost = record {
  free = free;
  halves = All-same (λ (h : Halves). h.block < c.free) c.late.halves.items [] halves (All-nil (λ (h : Halves). h.block < c.free));
  lost = All-same (λ (r : ℕ × Reg). r.0 < c.free) c.late.lost.items [] lost (All-nil (λ (r : ℕ × Reg). r.0 < c.free));
}

-- ---- blocks that are done

pub made_more : (f : Function) (c c' : Caller) (bs ahead : List Block) → c'.done.items ≡ c.done.items ++ bs → c'.late ≡ c.late → made_of f c' ahead ≡ made_of f c (bs ++ ahead)
made_more f c c' bs ahead done late =
    (λ i. late_given (late i) (record f { blocks = done i ++ ahead }))
    ∙ ap (λ (l : List Block). late_given c.late (record f { blocks = l })) (append_assoc c.done.items bs ahead)

pub ready_more : (g : Function) (c c' : Caller) → c'.free ≡ c.free → c'.late ≡ c.late → IsReady g c → IsReady g c'
ready_more g c c' free late ready = record {
  free = free ∙ ready.free;
  halves = subst (λ (l : Late). All (λ h. h.block < c'.free) l.halves.items) (sym late) (subst (λ (n : ℕ). All (λ h. h.block < n) c.late.halves.items) (sym free) ready.halves);
  lost = subst (λ (l : Late). All (λ r. r.0 < c'.free) l.lost.items) (sym late) (subst (λ (n : ℕ). All (λ r. r.0 < n) c.late.lost.items) (sym free) ready.lost);
}

-- ---- one call more

pub types_kept : (op : Operand → Operand) (as' : List Argument) → argument_types (map (argument_edited op) as') ≡ argument_types as'
types_kept op [] = refl
types_kept op (a ∷ more) = ap (λ (l : List Reg). a.reg ∷ l) (types_kept op more)

-- the instruction is still a call of the callee
pub call_late : (rs : List (ℕ × Reg)) (callee : Function) (instr : Instr) (as' : List Argument) → IsCallOf callee instr as' → IsCallOf callee (instr_edited (λ n. n) (without rs) instr) (map (argument_edited (without rs)) as')
call_late rs callee instr as' is = record {
  direct = ap (instr_edited (λ n. n) (without rs)) is.direct ∙ (λ i. Call callee.result (without_stays rs (Named callee.symbol 0) (λ v. refl) i) (map (argument_edited (without rs)) as'));
  typed = types_kept (without rs) as' ∙ is.typed;
}

pub laid : (edit name : Block → Block) (xs : List Block) (y : Block) (ys : List Block) → map edit (map name (xs ++ y ∷ ys)) ≡ map edit (map name xs) ++ edit (name y) ∷ map edit (map name ys)
laid edit name [] y ys = refl
laid edit name (x ∷ xs) y ys = ap (λ (l : List Block). edit (name x) ∷ l) (laid edit name xs y ys)

-- a result more that no return gives
lost_given : (f : Function) (bs : List Block) (rs rs' : List (ℕ × Reg)) (op : Operand → Operand) (name : ℕ → ℕ) (l : Option ℕ) (r : Option Reg) (es : List Incoming) → rs' ≡ rs ++ option_to_list (lost_of l r es)
    → record f { blocks = map (block_edited (λ n. n) (without rs')) bs }
    ≡ result_given (option_map (λ n. n) l) r (map (incoming_edited (λ n. n) op) (map (entry_by name) es)) (record f { blocks = map (block_edited (λ n. n) (without rs)) bs })
lost_given f bs rs rs' op name None r es e = ap (λ (qs : List (ℕ × Reg)). record f { blocks = map (block_edited (λ n. n) (without qs)) bs }) (e ∙ append-nil rs)
lost_given f bs rs rs' op name (Some x) None es e = ap (λ (qs : List (ℕ × Reg)). record f { blocks = map (block_edited (λ n. n) (without qs)) bs }) (e ∙ append-nil rs)
lost_given f bs rs rs' op name (Some x) (Some reg) (k ∷ es) e = ap (λ (qs : List (ℕ × Reg)). record f { blocks = map (block_edited (λ n. n) (without qs)) bs }) (e ∙ append-nil rs)
lost_given f bs rs rs' op name (Some x) (Some reg) [] e =
    ap (λ (qs : List (ℕ × Reg)). record f { blocks = map (block_edited (λ n. n) (without qs)) bs }) e
    ∙ (λ i. record f {
      params = sym (map-id f.params) i;
      blocks = ((λ k. map (block_edited (λ n. n) (λ o. without_more rs (x, reg) o k)) bs) ∙ sym (blocks_twice (λ n. n) (λ n. n) (operand_replaced (replacement ((x, Poison reg) ∷ []))) (without rs) bs)) i;
    })

module _ (f callee : Function) (c : Caller) (o : Open) (call : Line) (as' : List Argument) (lines : List Line) (end : Terminator) (ahead : List Block) where
  abbrev op : Operand → Operand
  op = without c.late.lost.items

  abbrev late : List Block → List Block
  late bs = map (block_edited (λ n. n) (without c.late.lost.items)) (map (with_names (named_by c.late.halves.items)) bs)

  abbrev whole : Function
  whole = made_of f c (opened_with o (call ∷ lines) end ∷ ahead)

  abbrev pub site : Site
  site = record {
    front = map (block_edited (λ n. n) (without c.late.lost.items)) (map (with_names (named_by c.late.halves.items)) c.done.items);
    block = block_edited (λ n. n) (without c.late.lost.items) (with_names (named_by c.late.halves.items) (opened_with o (call ∷ lines) end));
    back = map (block_edited (λ n. n) (without c.late.lost.items)) (map (with_names (named_by c.late.halves.items)) ahead);
    before = map (line_edited (λ n. n) (without c.late.lost.items)) o.lines;
    call = line_edited (λ n. n) (without c.late.lost.items) call;
    after = map (line_edited (λ n. n) (without c.late.lost.items)) lines;
  }

  abbrev arguments : List Argument
  arguments = map (argument_edited (without c.late.lost.items)) as'

  pub site_stands : StandsAt whole.blocks (next_in c o) site
  site_stands = record {
    blocks = laid (block_edited (λ n. n) op) (with_names (named_by c.late.halves.items)) c.done.items (opened_with o (call ∷ lines) end) ahead;
    lines = map-append (line_edited (λ n. n) op) o.lines (call ∷ lines);
    counts =
        let front : counted_in site.front ≡ counted_in c.done.items = late_counts (named_by c.late.halves.items) op c.done.items in
        let phis : length site.block.phis ≡ length o.phis = many_mapped (phi_edited (λ n. n) op) (map (phi_by (named_by c.late.halves.items)) o.phis) ∙ many_mapped (phi_by (named_by c.late.halves.items)) o.phis in
        let before : length site.before ≡ length o.lines = many_mapped (line_edited (λ n. n) op) o.lines in
        omega (arith, front, phis, before);
  }

  module _ (c' : Caller) (o' : Open) (ready : IsReady whole c) where
    abbrev behind : ℕ
    behind = behind_call c.free callee

    abbrev copy : List Block
    copy = copied c.free callee as'

    abbrev copy' : List Block
    copy' = copied c.free callee (map (argument_edited (without c.late.lost.items)) as')

    abbrev half : Halves
    half = record { block = o.number; behind = behind_call c.free callee }

    abbrev name : ℕ → ℕ
    name = named_by (c.late.halves.items ++ record { block = o.number; behind = behind_call c.free callee } ∷ [])

    abbrev next : Open
    next = behind_open call.local callee.result (behind_call c.free callee) (copied c.free callee as')

    abbrev physical : List Block
    physical = c.done.items ++ ended o (Jump (entry_of (copied c.free callee as'))) ∷ (map (leading_to (behind_call c.free callee)) (copied c.free callee as')
        ++ opened_with (behind_open call.local callee.result (behind_call c.free callee) (copied c.free callee as')) lines end ∷ ahead)

    number_old : o.number < c.free
    number_old = let old = old_number whole callee site arguments site_stands.blocks site_stands.lines in omega (arith, old, ready.free)

    past : c.free ≤ behind
    past = let is : behind ≡ length (blocks_numbers callee.blocks) + c.free = behind_is c.free callee in omega (arith, is)

    halves_old : All (λ h. h.block < c.free) (c.late.halves.items ++ half ∷ [])
    halves_old = All-push (λ (h : Halves). h.block < c.free) c.late.halves.items half ready.halves number_old

    fresh : (x : ℕ) → name (copied_number c.free callee x) ≡ copied_number c.free callee x
    fresh x = names_stay (c.late.halves.items ++ half ∷ []) c.free (copied_number c.free callee x) halves_old (omega arith)

    put : (p : Operand) → op (copied_operand c.free callee as' p) ≡ copied_operand c.free callee arguments p
    put p = operand_copied c.late.lost.items c.free callee as' ready.lost p

    before_is : block_edited (λ n. n) op (with_names name (ended o (Jump (entry_of copy)))) ≡ before_call site behind copy'
    before_is = λ i. record {
      number = o.number;
      phis = sym (phis_named c.late.halves.items half op o.phis) i;
      lines = map (line_edited (λ n. n) op) o.lines;
      end = Jump (entry_copied name (copied_number c.free callee) fresh op (copied_operand c.free callee as') (copied_operand c.free callee arguments) put behind callee.blocks i);
    }

    returns_is : map (incoming_edited (λ n. n) op) (map (entry_by name) (return_entries copy)) ≡ return_entries copy'
    returns_is = returns_copied name (copied_number c.free callee) fresh op (copied_operand c.free callee as') (copied_operand c.free callee arguments) put behind callee.blocks

    after_is : block_edited (λ n. n) op (with_names name (opened_with next lines end)) ≡ after_call site callee.result behind copy'
    after_is = λ i. record {
      number = behind;
      phis = (results_copied name op call.local callee.result (return_entries copy) ∙ ap (result_phis (option_map (λ n. n) call.local) callee.result) returns_is) i;
      lines = map (line_edited (λ n. n) op) lines;
      end = end_edited (λ n. n) op end;
    }

    spliced_is : record f { blocks = map (block_edited (λ n. n) op) (map (with_names name) physical) } ≡ spliced site callee.result behind copy' whole
    spliced_is = λ i. record f {
      blocks = (laid (block_edited (λ n. n) op) (with_names name) c.done.items (ended o (Jump (entry_of copy))) (map (leading_to behind) copy ++ opened_with next lines end ∷ ahead)
          ∙ ap (λ (l : List Block). map (block_edited (λ n. n) op) (map (with_names name) c.done.items) ++ block_edited (λ n. n) op (with_names name (ended o (Jump (entry_of copy)))) ∷ l)
          (laid (block_edited (λ n. n) op) (with_names name) (map (leading_to behind) copy) (opened_with next lines end) ahead)
          ∙ (λ k. sym (blocks_named c.late.halves.items half op c.done.items) k
          ++ before_is k ∷ (blocks_copied name (copied_number c.free callee) fresh op (copied_operand c.free callee as') (copied_operand c.free callee arguments) put behind callee.blocks k
          ++ after_is k ∷ sym (blocks_named c.late.halves.items half op ahead) k))) i;
    }

    module _ (done : c'.done.items ≡ c.done.items ++ ended o (Jump (entry_of copy)) ∷ map (leading_to behind) copy) (opens : o' ≡ next) (halves : c'.late.halves.items ≡ c.late.halves.items ++ half ∷ [])
        (lost : c'.late.lost.items ≡ c.late.lost.items ++ option_to_list (lost_of call.local callee.result (return_entries copy))) where
      pub inlined_late : made_of f c' (opened_with o' lines end ∷ ahead) ≡ inlined site callee arguments whole
      inlined_late =
          (λ i. record f { blocks = map (block_edited (λ n. n) (without c'.late.lost.items)) (map (with_names (named_by (halves i))) (done i ++ opened_with (opens i) lines end ∷ ahead)) })
          ∙ (λ i. record f {
            blocks = map (block_edited (λ n. n) (without c'.late.lost.items))
                (map (with_names name) (append_assoc c.done.items (ended o (Jump (entry_of copy)) ∷ map (leading_to behind) copy) (opened_with next lines end ∷ ahead) i));
          })
          ∙ lost_given f (map (with_names name) physical) c.late.lost.items c'.late.lost.items op name call.local callee.result (return_entries copy) lost
          ∙ (λ i. result_given (option_map (λ n. n) call.local) callee.result (returns_is i) (spliced_is i))
          ∙ (λ i. result_given site.call.local callee.result (return_entries (copied (ready.free i) callee arguments)) (spliced site callee.result (behind_call (ready.free i) callee) (copied (ready.free i) callee arguments) whole))

      module _ (free : c'.free ≡ behind + 1) where
        lost_old : All (λ r. r.0 < c'.free) (c.late.lost.items ++ option_to_list (lost_of call.local callee.result (return_entries copy)))
        lost_old = by call.local refl callee.result (return_entries copy)
          where
            were : All (λ r. r.0 < c'.free) c.late.lost.items
            were = All-weaker (λ (r : ℕ × Reg). r.0 < c.free) (λ (r : ℕ × Reg). r.0 < c'.free) (λ r lt. omega (arith, lt, free, past)) c.late.lost.items ready.lost

            none : All (λ r. r.0 < c'.free) (c.late.lost.items ++ [])
            none = All-same (λ (r : ℕ × Reg). r.0 < c'.free) (c.late.lost.items ++ []) c.late.lost.items (append-nil c.late.lost.items) were

            by : (l : Option ℕ) → call.local ≡ l → (r : Option Reg) (es : List Incoming) → All (λ r. r.0 < c'.free) (c.late.lost.items ++ option_to_list (lost_of l r es))
            by None e r es = none
            by (Some x) e None es = none
            by (Some x) e (Some reg) (k ∷ es) = none
            by (Some x) e (Some reg) [] =
                let old = old_local whole callee site arguments site_stands.blocks site_stands.lines x (ap (option_map (λ n. n)) e) in
                All-push (λ (r : ℕ × Reg). r.0 < c'.free) c.late.lost.items (x, reg) were (omega (arith, old, free, past, ready.free))

        pub ready_late : IsReady (made_of f c' (opened_with o' lines end ∷ ahead)) c'
        ready_late = record {
          free = free ∙ ap (λ (n : ℕ). behind_call n callee + 1) ready.free ∙ sym (grown whole callee site arguments site_stands.blocks site_stands.lines) ∙ ap first_free (sym inlined_late);
          halves = All-same (λ (h : Halves). h.block < c'.free) c'.late.halves.items (c.late.halves.items ++ half ∷ []) halves
              (All-weaker (λ (h : Halves). h.block < c.free) (λ (h : Halves). h.block < c'.free) (λ h lt. omega (arith, lt, free, past)) (c.late.halves.items ++ half ∷ []) halves_old);
          lost = All-same (λ (r : ℕ × Reg). r.0 < c'.free) c'.late.lost.items (c.late.lost.items ++ option_to_list (lost_of call.local callee.result (return_entries copy))) lost lost_old;
        }

-- ---- as the code has it

counted_both : (xs ys : List Block) → counted_in (xs ++ ys) ≡ counted_in xs + counted_in ys
counted_both [] ys = omega arith
counted_both (x ∷ xs) ys = let rest : counted_in (xs ++ ys) ≡ counted_in xs + counted_in ys = counted_both xs ys in omega (arith, rest)

copies_count : (behind : ℕ) (number : ℕ → ℕ) (op : Operand → Operand) (bs : List Block) → counted_in (map (leading_to behind) (map (block_edited number op) bs)) ≡ counted_in bs
copies_count behind number op [] = refl
copies_count behind number op (b ∷ bs) =
    let phis : length (map (phi_edited number op) b.phis) ≡ length b.phis = many_mapped (phi_edited number op) b.phis in
    let lines : length (map (line_edited number op) b.lines) ≡ length b.lines = many_mapped (line_edited number op) b.lines in
    let rest : counted_in (map (leading_to behind) (map (block_edited number op) bs)) ≡ counted_in bs = copies_count behind number op bs in
    omega (arith, phis, lines, rest)

pub counted_end : (xs ys : List Block) (b : Block) → ys ≡ xs ++ b ∷ [] → counted_in ys ≡ counted_in xs + counted b
counted_end xs ys b e = let both : counted_in (xs ++ b ∷ []) ≡ counted_in xs + counted_in (b ∷ []) = counted_both xs (b ∷ []) in ap counted_in e ∙ omega (arith, both)

pub counted_pass : (xs ys bs : List Block) → ys ≡ xs ++ bs → counted_in ys ≡ counted_in xs + counted_in bs
counted_pass xs ys bs e = ap counted_in e ∙ counted_both xs bs

module _ (callee : Function) (c c' : Caller) (o o' : Open) (call : Line) (as' : List Argument) (bs : List Block) (last : ℕ) (copy : bs ≡ copied c.free callee as') (behind : last ≡ behind_call c.free callee)
    (done : c'.done.items ≡ c.done.items ++ ended o (Jump (entry_of bs)) ∷ map (leading_to last) bs) where
  done_copy : c'.done.items ≡ c.done.items ++ ended o (Jump (entry_of (copied c.free callee as'))) ∷ map (leading_to (behind_call c.free callee)) (copied c.free callee as')
  done_copy = done ∙ (λ i. c.done.items ++ ended o (Jump (entry_of (copy i))) ∷ map (leading_to (behind i)) (copy i))

  pub counted_put : counted_in c'.done.items ≡ counted_in c.done.items + (length o.phis + length o.lines + 1) + counted_in callee.blocks
  counted_put =
      let both : counted_in (c.done.items ++ ended o (Jump (entry_of (copied c.free callee as'))) ∷ map (leading_to (behind_call c.free callee)) (copied c.free callee as')) ≡ counted_in c.done.items + counted_in (ended o (Jump (entry_of (copied c.free callee as'))) ∷ map (leading_to (behind_call c.free callee)) (copied c.free callee as')) =
      counted_both c.done.items (ended o (Jump (entry_of (copied c.free callee as'))) ∷ map (leading_to (behind_call c.free callee)) (copied c.free callee as')) in
      let copies : counted_in (map (leading_to (behind_call c.free callee)) (copied c.free callee as')) ≡ counted_in callee.blocks =
      copies_count (behind_call c.free callee) (copied_number c.free callee) (copied_operand c.free callee as') callee.blocks in
      ap counted_in done_copy ∙ omega (arith, both, copies)

  pub inlines : (f : Function) (lines : List Line) (end : Terminator) (ahead : List Block) → callee.blocks ≢ [] → IsCallOf callee call.instr as' → o' ≡ behind_open call.local callee.result last bs
      → c'.late.halves.items ≡ c.late.halves.items ++ record { block = o.number; behind = last } ∷ [] → c'.late.lost.items ≡ c.late.lost.items ++ option_to_list (lost_of call.local callee.result (return_entries bs)) → c'.free ≡ last + 1
      → Inlines f c c' o o' call callee lines end ahead
  inlines f lines end ahead some is opens halves lost free = record {
    inlined = λ ready. (
      some,
      site f callee c o call as' lines end ahead,
      map (argument_edited (without c.late.lost.items)) as',
      site_stands f callee c o call as' lines end ahead,
      call_late c.late.lost.items callee call.instr as' is,
      inlined_late f callee c o call as' lines end ahead c' o' ready done_copy opens_copy halves_copy lost_copy,
    );
    ready = λ ready. ready_late f callee c o call as' lines end ahead c' o' ready done_copy opens_copy halves_copy lost_copy (free ∙ ap (λ (n : ℕ). n + 1) behind);
  }
    where
      opens_copy : o' ≡ behind_open call.local callee.result (behind_call c.free callee) (copied c.free callee as')
      opens_copy = opens ∙ (λ i. behind_open call.local callee.result (behind i) (copy i))

      halves_copy : c'.late.halves.items ≡ c.late.halves.items ++ record { block = o.number; behind = behind_call c.free callee } ∷ []
      halves_copy = halves ∙ (λ i. c.late.halves.items ++ record { block = o.number; behind = behind i } ∷ [])

      lost_copy : c'.late.lost.items ≡ c.late.lost.items ++ option_to_list (lost_of call.local callee.result (return_entries (copied c.free callee as')))
      lost_copy = lost ∙ (λ i. c.late.lost.items ++ option_to_list (lost_of call.local callee.result (return_entries (copy i))))

-- the call at a place, where the function stands as it is
pub inlined_here : (f g callee : Function) (place : ℕ) (c c' : Caller) (o o' : Open) (call : Line) (lines : List Line) (end : Terminator) (ahead : List Block) → made_of f c (opened_with o (call ∷ lines) end ∷ ahead) ≡ f → IsReady f c → next_in c o ≡ place
    → Inlines f c c' o o' call callee lines end ahead → g ≡ made_of f c' (opened_with o' lines end ∷ ahead) → IsInlined f place callee (Some g)
inlined_here f g callee place c c' o o' call lines end ahead same ready at step is =
    subst (λ (h : Function). IsInlined f place callee (Some h)) (sym is)
    (subst (λ (n : ℕ). IsInlined f n callee (Some (made_of f c' (opened_with o' lines end ∷ ahead)))) at
    (subst (λ (h : Function). IsInlined h (next_in c o) callee (Some (made_of f c' (opened_with o' lines end ∷ ahead)))) same
    (step.inlined (subst (λ (h : Function). IsReady h c) (sym same) ready))))

pub inlined_at : (f g callee : Function) (place : ℕ) (s : Site) (first c c' : Caller) (o o' : Open) → StandsAt f.blocks place s → made_of f first f.blocks ≡ f → IsReady f first → counted_done first ≡ 0
    → o ≡ record { number = s.block.number; phis = s.block.phis; lines = s.before } → c.done.items ≡ first.done.items ++ s.front → c.free ≡ first.free → c.late ≡ first.late
    → Inlines f c c' o o' s.call callee s.after s.block.end s.back → g ≡ made_of f c' (opened_with o' s.after s.block.end ∷ s.back) → IsInlined f place callee (Some g)
inlined_at f g callee place s first c c' o o' stands same ready none block done free late step is =
    inlined_here f g callee place c c' o o' s.call s.after s.block.end s.back whole_f (ready_more f first c free late ready) at step is
  where
    whole_f : made_of f c (opened_with o (s.call ∷ s.after) s.block.end ∷ s.back) ≡ f
    whole_f =
        ap (λ (p : Open). made_of f c (opened_with p (s.call ∷ s.after) s.block.end ∷ s.back)) block
        ∙ ap (λ (ls : List Line). made_of f c (record s.block { lines = ls } ∷ s.back)) (sym stands.lines)
        ∙ made_more f first c s.front (s.block ∷ s.back) done late
        ∙ ap (made_of f first) (sym stands.blocks)
        ∙ same

    at : next_in c o ≡ place
    at =
        let front : counted_in c.done.items ≡ counted_in first.done.items + counted_in s.front = counted_pass first.done.items c.done.items s.front done in
        let phis : length o.phis ≡ length s.block.phis = ap (λ (p : Open). length p.phis) block in
        let lines : length o.lines ≡ length s.before = ap (λ (p : Open). length p.lines) block in
        let counts : place ≡ counted_in s.front + (length s.block.phis + (length s.before + 1)) = stands.counts in
        omega (arith, front, phis, lines, counts, none)
