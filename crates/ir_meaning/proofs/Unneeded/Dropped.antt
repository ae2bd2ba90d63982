-- A function without what nobody needs is better: the program runs what was dropped, and nothing depends on it.
use Rattle.std.proofs.Common.{◌≡◌, ◌≢◌, ℕ, zero, suc, ◌+◌, ◌<◌, ◌≤◌, Bool, true, false, ◌||◌, ◌==◌, if◌then◌else◌, List, [], ◌∷◌, ◌++◌, length, Option, Some, None, slice_get, ◌⊎◌, inl, inr, refl, sym, ap, ◌∙◌, subst, arith, length-append, length-set}
use Rattle.std.proofs.lemmas.Bool.{cases_eq, cases_Bool, ne_eqb}
use Rattle.std.proofs.lemmas.Option.{slice_get_within}
use Rattle.std.specs.Prelude.{slice_set}
use Rattle.ir_tree.specs.Layout.{size as size_of}
use Rattle.ir_tree.specs.declared.block.Block.{Block}
use Rattle.ir_tree.specs.declared.block.Terminator.{Terminator}
use Rattle.ir_tree.specs.declared.function.Function.{Function}
use Rattle.ir_tree.specs.declared.function.Param.{Param}
use Rattle.ir_tree.specs.declared.instr.Instr.{Instr}
use Rattle.ir_tree.specs.declared.instr.Instr.TheVariants.{Binary, Icmp, Cast, Select, Freeze, Alloca, Load, Store, Address, Call, Phi as StrayPhi}
use Rattle.ir_tree.specs.declared.instr.Line.{Line}
use Rattle.ir_tree.specs.declared.instr.Phi.{Phi}
use Rattle.ir_tree.specs.declared.operand.Operand.{Operand}
use Rattle.ir_meaning.specs.Access.{load}
use Rattle.ir_meaning.specs.Act.{Act, with_slot, apply, incoming_value, phis_bound, find_block, enters_block, Exit, Leaves, Leads', Stuck, exit_of, exits, act, params_bound, enter_at, enter, resume}
use Rattle.ir_meaning.specs.Execute.{evaluate, Effect, Went, Asked, Broke, execute, gives}
use Rattle.ir_meaning.specs.Frame.{Locals, Frame, Signature, look_up, bind, value_of}
use Rattle.ir_meaning.specs.Memory.{MemoryBlock, Memory, fresh, dead, end_life, kill}
use Rattle.ir_meaning.specs.Near.{Setting, FailsWithin, IsAnswered}
use Rattle.ir_meaning.specs.Operate.{Answer, Is, Never, Unwritten, binary}
use Rattle.ir_meaning.specs.Program.{variables, State, On, Broken, place_of, advance, Leads}
use Rattle.ir_meaning.specs.Relate.{Pairing, Point, Fixes, Related, Kept, IsUnpaired, SameBlock, Agrees, AllAgree, AnswersAgree, ValuesAgree, ArgumentsAgree}
use Rattle.ir_meaning.specs.declared.event.Event.{Event}
use Rattle.ir_meaning.specs.declared.value.Value.{Value}
use Rattle.ir_meaning.specs.Formed.{IsFormed}
use Rattle.ir_meaning.specs.Laws.{NeededBetter}
use Rattle.ir_meaning.specs.Needed.{is_effect, local_kept, is_needed, needed_lines, needed_phis, needed_block, needed_blocks, needed, LinesClosed, BlockClosed, BlocksClosed}
use Rattle.ir_meaning.proofs.Alike.Answering.{near_by, phi_agrees, bounded, answered_after, alone, answered_effects, answered_return, answered_go, answered_fails, breaks_at_once, bind_agrees, PhisKept, EndReads, ExitsAgree, exit_agrees, names_of, act_at_line, act_at_end}
use Rattle.ir_meaning.proofs.Alike.Effects.{locals_later, evaluate_agrees, reads_agree, SlotAgrees, execute_alike}
use Rattle.ir_meaning.proofs.Alike.Keeping.{get_set_other, get_append_old, marks_same, kept_refl, kept_trans, kept_fixes, fixes_right, updated, update_kept}
use Rattle.ir_meaning.proofs.Alike.Values.{LocalsAgree, Names, if_agrees}
use Rattle.ir_meaning.proofs.Between.Points.{lands, block_of, block_here, Found, inverse}
use Rattle.ir_meaning.proofs.Runs.Steps.{one_step, leads_trans}

-- ---- the program's own blocks

-- no block of the program goes away
pub kept_right : {g : ℕ} (p q : Point) → Kept g p q → length p.right ≤ length q.right
kept_right p q k = by (length p.right) (λ n lt. last n lt (inverse p.pairing (length p.left) n))
  where
    last : (n : ℕ) → n < length p.right → Found p.pairing (length p.left) n → n < length q.right
    last n lt (inl f) =
        let to = lands q k.related f.0 (omega (arith, f.1, k.grown)) in
        let e = k.extends f.0 f.1 in
        omega (arith, f.2)
    last n lt (inr none) =
        let y = k.private n (block_of p.right n) (block_here p.right n lt) none in
        slice_get_within q.right n (block_of p.right n) y.0

    by : (m : ℕ) → ((n : ℕ) → n < m → n < length q.right) → m ≤ length q.right
    by zero h = omega arith
    by (suc m) h = let x = h m (omega arith) in omega arith

pub right_more_kept : {g : ℕ} (p : Point) → Related p → (x : MemoryBlock) →
    Kept g p (record { pairing = p.pairing; left = p.left; right = p.right ++ x ∷ [] })
right_more_kept p rel x = record {
  related = record {
    blocks = λ l b e. let y = rel.blocks l b e in
        (y.0, get_append_old p.right (x ∷ []) (p.pairing l) (slice_get_within p.right (p.pairing l) y.0 y.1) ∙ y.1, y.2);
    one_to_one = rel.one_to_one;
  };
  grown = omega arith;
  extends = λ l lt. refl;
  marks = λ l b e. (b, e, marks_same b);
  ended = λ r b e d. (b, get_append_old p.right (x ∷ []) r (slice_get_within p.right r b e) ∙ e, d);
  alive = λ r lt a. (a.0, get_append_old p.right (x ∷ []) r (slice_get_within p.right r a.0 a.1) ∙ a.1, a.2);
  private = λ r b e u. (get_append_old p.right (x ∷ []) r (slice_get_within p.right r b e) ∙ e, u);
}

-- a block of the program alone, made since the entry, dies
pub right_dead_kept : {g : ℕ} (entry p : Point) → Kept g entry p → (r : ℕ) → length entry.right ≤ r → IsUnpaired p r → (x : MemoryBlock) →
    Kept g entry (record { pairing = p.pairing; left = p.left; right = slice_set p.right r x })
right_dead_kept entry p k r new u x = record {
  related = record {
    blocks = λ l b e. let y = k.related.blocks l b e in
        (y.0, get_set_other p.right r (p.pairing l) x (λ s. u l (slice_get_within p.left l b e) s) ∙ y.1, y.2);
    one_to_one = k.related.one_to_one;
  };
  grown = k.grown;
  extends = k.extends;
  marks = k.marks;
  ended = λ i b e d.
      let li = slice_get_within entry.right i b e in
      let y = k.ended i b e d in
      let ne : i ≢ r = omega arith in
      (y.0, get_set_other p.right r i x ne ∙ y.1, y.2);
  alive = λ i lt a.
      let li = slice_get_within entry.right i a.0 a.1 in
      let y = k.alive i lt a in
      let ne : i ≢ r = omega arith in
      (y.0, get_set_other p.right r i x ne ∙ y.1, y.2);
  private = λ i b e v.
      let li = slice_get_within entry.right i b e in
      let y = k.private i b e v in
      let ne : i ≢ r = omega arith in
      (get_set_other p.right r i x ne ∙ y.0, y.1);
}

-- ---- slots: each of the program's was made since the entry, and is a counterpart of the next one or its own
abbrev pub SlotsKin : Point → Point → List ℕ → List ℕ → Type 0
SlotsKin entry p ls [] = ls ≡ []
SlotsKin entry p ls (r ∷ rs) =
    ((l : ℕ) × (ls' : List ℕ) × (ls ≡ l ∷ ls') × (l < length p.left) × (p.pairing l ≡ r) ×
    (length entry.right ≤ r) × SlotsKin entry p ls' rs)
    ⊎ ((length entry.right ≤ r) × (r < length p.right) × IsUnpaired p r × SlotsKin entry p ls rs)

pub kin_later : {g : ℕ} (entry p q : Point) → Kept g p q → (ls rs : List ℕ) → SlotsKin entry p ls rs → SlotsKin entry q ls rs
kin_later entry p q k ls [] s = s
kin_later entry p q k ls (r ∷ rs) (inl s) = inl (
  s.0,
  s.1,
  s.2,
  omega (arith, s.3, k.grown),
  k.extends s.0 s.3
      ∙ s.4,
  s.5,
  kin_later entry p q k s.1 rs s.6,
)
kin_later entry p q k ls (r ∷ rs) (inr s) =
    let y = k.private r (block_of p.right r) (block_here p.right r s.1) s.2 in
    inr (s.0, slice_get_within q.right r (block_of p.right r) y.0, y.1, kin_later entry p q k ls rs s.3)

-- only the right block of this number changed
pub kin_right : (entry p : Point) (r : ℕ) (x : MemoryBlock) (ls rs : List ℕ) → SlotsKin entry p ls rs →
    SlotsKin entry (record { pairing = p.pairing; left = p.left; right = slice_set p.right r x }) ls rs
kin_right entry p r x ls [] s = s
kin_right entry p r x ls (i ∷ rs) (inl s) = inl (s.0, s.1, s.2, s.3, s.4, s.5, kin_right entry p r x s.1 rs s.6)
kin_right entry p r x ls (i ∷ rs) (inr s) = inr (s.0, omega (arith, s.1, length-set p.right r x), s.2, kin_right entry p r x ls rs s.3)

pub kin_killed : (g : ℕ) (rs ls : List ℕ) (entry p : Point) → Fixes g entry → Kept g entry p → SlotsKin entry p ls rs →
    Kept g entry (record { pairing = p.pairing; left = kill ls p.left; right = kill rs p.right })
kin_killed g [] ls entry p fix k s = subst (λ (xs : List ℕ).
    Kept g entry (record { pairing = p.pairing; left = kill xs p.left; right = p.right })) (sym s) k
kin_killed g (r ∷ rs) ls entry p fix k (inr s) =
    let at = block_here p.right r s.1 in
    let x = dead (block_of p.right r) in
    let q : Point = record { pairing = p.pairing; left = p.left; right = slice_set p.right r x } in
    let k' = right_dead_kept entry p k r s.0 s.2 x in
    let rest = kin_killed g rs ls entry q fix k' (kin_right entry p r x ls rs s.3) in
    let is : end_life p.right r (slice_get p.right r) ≡ q.right = ap (λ (o : Option MemoryBlock). end_life p.right r o) at in
    subst (λ (m : Memory). Kept g entry (record { pairing = p.pairing; left = kill ls p.left; right = kill rs m })) (sym is) rest
kin_killed g (r ∷ rs) ls entry p fix k (inl s) =
    let l = s.0 in
    let b = block_of p.left l in
    let at = block_here p.left l s.3 in
    let y = k.related.blocks l b at in
    let same : SameBlock p.pairing (length p.left) (dead b) (dead y.0) =
    record {
      marks = record { size = y.2.marks.size; align = y.2.marks.align; writable = y.2.marks.writable };
      live = λ i. i;
      bytes = y.2.bytes;
    } in
    let q = updated p l (dead b) (dead y.0) in
    let early = fixes_right g entry fix in
    let kq = update_kept {g = g} p k.related l (dead b) (dead y.0) s.3 same (record { size = refl; align = refl; writable = refl }) (λ d. refl)
    (λ below a. absurd (omega (arith, s.4, s.5, early))) in
    let rest = kin_killed g rs s.1 entry q fix (kept_trans entry p q k kq) (kin_later entry p q kq s.1 rs s.6) in
    let left_is : end_life p.left l (slice_get p.left l) ≡ q.left = ap (λ (o : Option MemoryBlock). end_life p.left l o) at in
    let right_is : end_life p.right r (slice_get p.right r) ≡ q.right =
    ap (λ (i : ℕ). end_life p.right i (slice_get p.right i)) (sym s.4)
    ∙ ap (λ (o : Option MemoryBlock). end_life p.right (p.pairing l) o) y.1 in
    let a = subst (λ (m : Memory). Kept g entry (record { pairing = p.pairing; left = kill s.1 m; right = kill rs q.right }))
    (sym left_is) rest in
    let a' = subst (λ (m : Memory). Kept g entry (record {
      pairing = p.pairing;
      left = kill (l ∷ s.1) p.left;
      right = kill rs m;
    })) (sym right_is) a in
    subst (λ (xs : List ℕ). Kept g entry (record { pairing = p.pairing; left = kill xs p.left; right = kill (r ∷ rs) p.right })) (sym s.2) a'

pub kin_more : {g : ℕ} (entry p q : Point) → Kept g entry p → (slot slot' : Option ℕ) (ls rs : List ℕ) → SlotAgrees p q slot slot' →
    SlotsKin entry q ls rs → SlotsKin entry q (with_slot slot ls) (with_slot slot' rs)
kin_more entry p q k None None ls rs a h = h
kin_more entry p q k (Some l) (Some r) ls rs a h = inl (l, ls, refl, a.0, a.1, omega (arith, kept_right entry p k, a.2), h)
kin_more entry p q k None (Some r) ls rs a h = absurd a
kin_more entry p q k (Some l) None ls rs a h = absurd a

-- ---- what is dropped is quiet

abbrev IsQuiet : Memory → ℕ → Effect → Type 0
IsQuiet m place (Broke why) = Unit {0}
IsQuiet m place (Went v None m' place' es) = (m' ≡ m) × (place' ≡ place) × (es ≡ [])
IsQuiet m place (Went v (Some s) m' place' es) = (s ≡ length m) × (x : MemoryBlock) × (m' ≡ m ++ x ∷ []) × (place' ≡ place) × (es ≡ [])
IsQuiet m place (Asked s vs) = ⊥

gives_quiet : (m : Memory) (place : ℕ) (x : Answer) → IsQuiet m place (gives m place x)
gives_quiet m place (Is v) = (refl, refl, refl)
gives_quiet m place (Never why) = tt
gives_quiet m place Unwritten = tt

quiet : (sig : Signature) (input : List ℕ) (m : Memory) (place choice : ℕ) (value : Operand → Value) (i : Instr) →
    is_effect i ≡ false → IsQuiet m place (execute sig input m place choice (evaluate value i))
quiet sig input m place choice value (Binary op f k l r) e = gives_quiet m place (binary op f k (value l) (value r))
quiet sig input m place choice value (Icmp p reg l r) e = (refl, refl, refl)
quiet sig input m place choice value (Cast op from o to) e = (refl, refl, refl)
quiet sig input m place choice value (Select c t f) e = (refl, refl, refl)
quiet sig input m place choice value (Freeze k o) e = (refl, refl, refl)
quiet sig input m place choice value (Alloca shape align) e = (refl, fresh (size_of shape) align, refl, refl, refl)
quiet sig input m place choice value (Load reg o align) e = gives_quiet m place (load m reg (value o) align)
quiet sig input m place choice value (Address inbounds shape o is) e = (refl, refl, refl)
quiet sig input m place choice value (Store reg o d align) e = absurd (cc e)
quiet sig input m place choice value (Call result c args) e = absurd (cc e)
quiet sig input m place choice value (StrayPhi reg es) e = (refl, refl, refl)

or_false : (a b : Bool) → (a || b) ≡ false → (a ≡ false) × (b ≡ false)
or_false false false e = (refl, refl)
or_false true b e = absurd (cc e)
or_false false true e = absurd (cc e)

pub other_agrees : (keeps : ℕ → Bool) (w : Pairing) (n : ℕ) (x : ℕ) (v : Value) (ls rs : Locals) → keeps x ≡ false →
    LocalsAgree keeps w n ls rs → (y : ℕ) → keeps y ≡ true → (x ≡ y) ⊎ (x ≡ y → ⊥) →
    Agrees w n (look_up ls y) (look_up ((x, v) ∷ rs) y)
other_agrees keeps w n x v ls rs e h y kept (inl same) = let k' = ap keeps same ∙ kept in absurd (cc (e, k'))
other_agrees keeps w n x v ls rs e h y kept (inr other) =
    let t = ne_eqb x y other in
    subst (λ (b : Bool). Agrees w n (look_up ls y) (if b then v else look_up rs y)) (sym t) (h y kept)

pub bind_other : (keeps : ℕ → Bool) (w : Pairing) (n : ℕ) (local : Option ℕ) (v : Option Value) (ls rs : Locals) →
    local_kept keeps local ≡ false → LocalsAgree keeps w n ls rs → LocalsAgree keeps w n ls (bind local v rs)
bind_other keeps w n None v ls rs e h = h
bind_other keeps w n (Some x) None ls rs e h = h
bind_other keeps w n (Some x) (Some v) ls rs e h = λ y kept. other_agrees keeps w n x v ls rs e h y kept (cases_eq x y)

-- phis that nobody needs are dropped on the left
phis_dropped : (sig : Signature) (w : Pairing) (n : ℕ) → Names sig w n → (keeps : ℕ → Bool) (ls rs : Locals) →
    LocalsAgree keeps w n ls rs → (from : ℕ) (ps : List Phi) → PhisKept keeps ps → (ls' rs' : Locals) →
    LocalsAgree keeps w n ls' rs' → LocalsAgree keeps w n (phis_bound sig ls from (needed_phis keeps ps) ls')
    (phis_bound sig rs from ps rs')
phis_dropped sig w n c keeps ls rs h from [] k ls' rs' h' = h'
phis_dropped sig w n c keeps ls rs h from (x ∷ ps) k ls' rs' h' =
    by (keeps x.local) refl (phis_dropped sig w n c keeps ls rs h from ps k.1 ls' rs' h')
  where
    by : (t : Bool) → keeps x.local ≡ t → LocalsAgree keeps w n (phis_bound sig ls from (needed_phis keeps ps) ls')
        (phis_bound sig rs from ps rs') → LocalsAgree keeps w n
        (phis_bound sig ls from (if t then x ∷ needed_phis keeps ps else needed_phis keeps ps) ls')
        (phis_bound sig rs from (x ∷ ps) rs')
    by true e rest = λ y kept. phi_agrees sig w n c keeps ls rs h from x k.0 (phis_bound sig ls from (needed_phis keeps ps) ls')
        (phis_bound sig rs from ps rs') rest y kept (cases_eq x.local y)
    by false e rest = λ y kept. other_agrees keeps w n x.local (incoming_value sig rs from x.incoming)
        (phis_bound sig ls from (needed_phis keeps ps) ls') (phis_bound sig rs from ps rs') e rest y kept (cases_eq x.local y)

-- ---- the blocks

abbrev BlockOf : (ℕ → Bool) → ℕ → Option Block → Option Block → Type 0
BlockOf keeps k None None = Unit {0}
BlockOf keeps k (Some a) (Some b) = (a ≡ needed_block keeps b) × BlockClosed keeps k b
BlockOf keeps k _ _ = ⊥

found_block : (keeps : ℕ → Bool) (k : ℕ) (bs : List Block) → BlocksClosed keeps k bs → (target : ℕ) →
    BlockOf keeps k (find_block (needed_blocks keeps bs) target) (find_block bs target)
found_block keeps k [] c target = tt
found_block keeps k (b ∷ bs) c target = by (b.number == target) (found_block keeps k bs c.1 target)
  where
    by : (t : Bool) → BlockOf keeps k (find_block (needed_blocks keeps bs) target) (find_block bs target) →
        BlockOf keeps k (if t then Some (needed_block keeps b) else find_block (needed_blocks keeps bs) target)
        (if t then Some b else find_block bs target)
    by true rest = (refl, c.0)
    by false rest = rest

-- ---- the invariant

module _ (z : Setting) (formed : IsFormed z.program) (keeps : ℕ → Bool) (k : ℕ) (f : Function)
    (closed : BlocksClosed keeps k f.blocks) (bound : k + 1 ≤ z.bound) where
  record Kin (entry p : Point) (a b : Frame) : Type 0 where
    kept : Kept (variables z.program) entry p
    fixes : Fixes (variables z.program) entry
    function : a.function ≡ needed keeps f
    function' : b.function ≡ f
    block : a.block ≡ b.block
    rest : a.rest ≡ needed_lines keeps b.rest
    end : a.end ≡ b.end
    awaits : a.awaits ≡ b.awaits
    locals : LocalsAgree keeps p.pairing (length p.left) a.locals b.locals
    slots : SlotsKin entry p a.slots b.slots
    lines_closed : LinesClosed keeps b.rest
    end_closed : EndReads keeps b.end
    short : length b.rest ≤ k

  record Holds (entry : Point) (a : Frame) (m : Memory) (s : State) : Type 0 where
    point : Point
    left : point.left ≡ m
    frame : Frame
    place : ℕ
    is : s ≡ alone frame point.right place
    kin : Kin entry point a frame

  holds : (entry p : Point) (a b : Frame) (place : ℕ) → Kin entry p a b → Holds entry a p.left (alone b p.right place)
  holds entry p a b place kin = record { point = p; left = refl; frame = b; place = place; is = refl; kin = kin }

  -- ---- running what was dropped

  record Reached (entry p : Point) (a b : Frame) (place : ℕ) (rest : List Line) : Type 0 where
    point : Point
    left : point.left ≡ p.left
    frame : Frame
    steps : ℕ
    leads : Leads z.program z.input steps (alone b p.right place) [] (On (alone frame point.right place))
    few : steps ≤ length rest
    kin : Kin entry point a frame
    first : (frame.rest ≡ []) ⊎ ((line : Line) × (rest' : List Line) × (frame.rest ≡ line ∷ rest') × (is_needed keeps line ≡ true))

  abbrev Reaches : Point → Point → Frame → Frame → ℕ → List Line → Type 0
  Reaches entry p a b place rest = FailsWithin z.program z.input (length rest) (alone b p.right place) [] ⊎ Reached entry p a b place rest

  -- one more step before
  reach_more : (entry p q : Point) (a b c : Frame) (place : ℕ) (line : Line) (rest : List Line) → q.left ≡ p.left →
      Leads z.program z.input 1 (alone b p.right place) [] (On (alone c q.right place)) → Reaches entry q a c place rest →
      Reaches entry p a b place (line ∷ rest)
  reach_more entry p q a b c place line rest same one (inl g) =
      inl (record {
        steps = 1 + g.steps;
        few = omega (arith, g.few);
        seen = g.seen;
        later = g.later;
        front = g.front;
        failure = g.failure;
        leads = leads_trans z.program z.input 1 g.steps (alone b p.right place) (alone c q.right place)
            [] g.seen (Broken g.failure) one g.leads;
      })
  reach_more entry p q a b c place line rest same one (inr r) =
      inr (record {
        point = r.point;
        left = r.left ∙ same;
        frame = r.frame;
        steps = 1 + r.steps;
        leads = leads_trans z.program z.input 1 r.steps (alone b p.right place) (alone c q.right place) [] []
            (On (alone r.frame r.point.right place)) one r.leads;
        few = omega (arith, r.few);
        kin = r.kin;
        first = r.first;
      })

  -- the rest of the block on the right
  cut_rest : (a b : Frame) (line : Line) (rest : List Line) → a.rest ≡ needed_lines keeps b.rest → b.rest ≡ line ∷ rest →
      is_needed keeps line ≡ false → a.rest ≡ needed_lines keeps rest
  cut_rest a b line rest e at unneeded = e ∙ ap (needed_lines keeps) at
      ∙ ap (λ (t : Bool). if t then line ∷ needed_lines keeps rest else needed_lines keeps rest) unneeded

  dropped : (entry p : Point) (a b : Frame) (line : Line) (rest : List Line) (v : Option Value) → Kin entry p a b →
      b.rest ≡ line ∷ rest → is_needed keeps line ≡ false →
      Kin entry p a (record b { rest = rest; locals = bind line.local v b.locals })
  dropped entry p a b line rest v kin e unneeded = record {
    kept = kin.kept;
    fixes = kin.fixes;
    function = kin.function;
    function' = kin.function';
    block = kin.block;
    rest = cut_rest a b line rest kin.rest e unneeded;
    end = kin.end;
    awaits = kin.awaits;
    locals = bind_other keeps p.pairing (length p.left) line.local v a.locals b.locals
        (or_false (is_effect line.instr) (local_kept keeps line.local) unneeded).1 kin.locals;
    slots = kin.slots;
    lines_closed = (subst (λ (l : List Line). LinesClosed keeps l) e kin.lines_closed).1;
    end_closed = kin.end_closed;
    short = let n = ap (λ (l : List Line). length l) e in omega (arith, kin.short);
  }

  reserved : (entry p : Point) (a b : Frame) (line : Line) (rest : List Line) (v : Option Value) (x : MemoryBlock) →
      Kin entry p a b → b.rest ≡ line ∷ rest → is_needed keeps line ≡ false →
      Kin entry (record { pairing = p.pairing; left = p.left; right = p.right ++ x ∷ [] }) a
      (record b { rest = rest; locals = bind line.local v b.locals; slots = length p.right ∷ b.slots })
  reserved entry p a b line rest v x kin e unneeded =
      let p' : Point = record { pairing = p.pairing; left = p.left; right = p.right ++ x ∷ [] } in
      let kp = right_more_kept {g = variables z.program} p kin.kept.related x in
      let longer = length-append p.right (x ∷ []) in
      record {
        kept = kept_trans entry p p' kin.kept kp;
        fixes = kin.fixes;
        function = kin.function;
        function' = kin.function';
        block = kin.block;
        rest = cut_rest a b line rest kin.rest e unneeded;
        end = kin.end;
        awaits = kin.awaits;
        locals = bind_other keeps p.pairing (length p.left) line.local v a.locals b.locals
            (or_false (is_effect line.instr) (local_kept keeps line.local) unneeded).1 kin.locals;
        slots = inr (
          kept_right entry p kin.kept,
          omega (arith, longer),
          (λ l lt s. absurd (omega (arith, lands p kin.kept.related l lt))),
          kin_later entry p p' kp a.slots b.slots kin.slots,
        );
        lines_closed = (subst (λ (l : List Line). LinesClosed keeps l) e kin.lines_closed).1;
        end_closed = kin.end_closed;
        short = let n = ap (λ (l : List Line). length l) e in omega (arith, kin.short);
      }

  -- the step of what was dropped
  drop_step : (entry p : Point) (a b : Frame) (place : ℕ) (line : Line) (rest : List Line) → Kin entry p a b →
      b.rest ≡ line ∷ rest → is_needed keeps line ≡ false → (y : Effect) →
      act z.program.signature z.input b p.right place 0 ≡ apply (record b { rest = rest }) line.local y →
      IsQuiet p.right place y → ((q : Point) (c : Frame) → Kin entry q a c → c.rest ≡ rest → Reaches entry q a c place rest) →
      Reaches entry p a b place (line ∷ rest)
  drop_step entry p a b place line rest kin e unneeded (Broke why) is q go =
      inl (record {
        steps = 1;
        few = omega arith;
        seen = [];
        later = [];
        front = refl;
        failure = record { why = why; at = place_of b };
        leads = one_step z.program z.input (alone b p.right place) 0
            (record { events = []; next = Broken (record { why = why; at = place_of b }) })
            (ap (advance z.program (place_of b) [] p.right place) is);
      })
  drop_step entry p a b place line rest kin e unneeded (Went v None m' place' es) is q go =
      let c : Frame = record b { rest = rest; locals = bind line.local v b.locals } in
      let one = one_step z.program z.input (alone b p.right place) 0 (record { events = es; next = On (alone c m' place') })
      (ap (advance z.program (place_of b) [] p.right place) is) in
      let one1 = subst (λ (l : List Event). Leads z.program z.input 1 (alone b p.right place) l (On (alone c m' place'))) q.2 one in
      let one2 = subst (λ (pl : ℕ). Leads z.program z.input 1 (alone b p.right place) [] (On (alone c m' pl))) q.1 one1 in
      let one3 = subst (λ (m : Memory). Leads z.program z.input 1 (alone b p.right place) [] (On (alone c m place))) q.0 one2 in
      reach_more entry p p a b c place line rest refl one3 (go p c (dropped entry p a b line rest v kin e unneeded) refl)
  drop_step entry p a b place line rest kin e unneeded (Went v (Some s) m' place' es) is q go =
      let c : Frame = record b { rest = rest; locals = bind line.local v b.locals; slots = length p.right ∷ b.slots } in
      let c' : Frame = record b { rest = rest; locals = bind line.local v b.locals; slots = s ∷ b.slots } in
      let one = one_step z.program z.input (alone b p.right place) 0 (record { events = es; next = On (alone c' m' place') })
      (ap (advance z.program (place_of b) [] p.right place) is) in
      let one1 = subst (λ (l : List Event). Leads z.program z.input 1 (alone b p.right place) l (On (alone c' m' place'))) q.4 one in
      let one2 = subst (λ (pl : ℕ). Leads z.program z.input 1 (alone b p.right place) [] (On (alone c' m' pl))) q.3 one1 in
      let one3 = subst (λ (m : Memory). Leads z.program z.input 1 (alone b p.right place) [] (On (alone c' m place))) q.2 one2 in
      let one4 = subst (λ (i : ℕ). Leads z.program z.input 1 (alone b p.right place) []
      (On (alone (record b { rest = rest; locals = bind line.local v b.locals; slots = i ∷ b.slots })
      (p.right ++ q.1 ∷ []) place))) q.0 one3 in
      let p' : Point = record { pairing = p.pairing; left = p.left; right = p.right ++ q.1 ∷ [] } in
      reach_more entry p p' a b c place line rest refl one4 (go p' c (reserved entry p a b line rest v q.1 kin e unneeded) refl)
  drop_step entry p a b place line rest kin e unneeded (Asked s vs) is q go = absurd q

  reach_by : (entry p : Point) (a b : Frame) (place : ℕ) (line : Line) (rest : List Line) → Kin entry p a b →
      b.rest ≡ line ∷ rest → (is_needed keeps line ≡ true) ⊎ (is_needed keeps line ≡ false) →
      ((q : Point) (c : Frame) → Kin entry q a c → c.rest ≡ rest → Reaches entry q a c place rest) →
      Reaches entry p a b place (line ∷ rest)
  reach_by entry p a b place line rest kin e (inl yes') go =
      inr (record {
        point = p;
        left = refl;
        frame = b;
        steps = 0;
        leads = (refl, refl);
        few = omega arith;
        kin = kin;
        first = inr (line, rest, e, yes');
      })
  reach_by entry p a b place line rest kin e (inr unneeded) go =
      drop_step entry p a b place line rest kin e unneeded
      (execute z.program.signature z.input p.right place 0 (evaluate (value_of z.program.signature b.locals) line.instr))
      (act_at_line z.program.signature z.input b p.right place 0 line rest e)
      (quiet z.program.signature z.input p.right place 0 (value_of z.program.signature b.locals) line.instr
      (or_false (is_effect line.instr) (local_kept keeps line.local) unneeded).0) go

  reach : (rest : List Line) (entry p : Point) (a b : Frame) (place : ℕ) → Kin entry p a b → b.rest ≡ rest → Reaches entry p a b place rest
  reach [] entry p a b place kin e = inr (record {
    point = p;
    left = refl;
    frame = b;
    steps = 0;
    leads = (refl, refl);
    few = omega arith;
    kin = kin;
    first = inl e;
  })
  reach (line ∷ rest) entry p a b place kin e =
      reach_by entry p a b place line rest kin e (cases_Bool (is_needed keeps line)) (λ q c kin' e'. reach rest entry q a c place kin' e')

  -- ---- one step on both sides

  one : Setting
  one = bounded z 1

  resumed : (p : Point) (a b : Frame) (entry : Point) → Kin entry p a b → (v u : Option Value) → ValuesAgree p v u →
      Kin entry p (resume a v) (resume b u)
  unfolding resume
  resumed p a b entry kin v u agree = record {
    kept = kin.kept;
    fixes = kin.fixes;
    function = kin.function;
    function' = kin.function';
    block = kin.block;
    rest = kin.rest;
    end = kin.end;
    awaits = refl;
    locals = subst (λ (o : Option ℕ). LocalsAgree keeps p.pairing (length p.left) (bind a.awaits v a.locals)
        (bind o u b.locals)) kin.awaits (bind_agrees keeps p a.awaits v u a.locals b.locals agree kin.locals);
    slots = kin.slots;
    lines_closed = kin.lines_closed;
    end_closed = kin.end_closed;
    short = kin.short;
  }

  -- both sides behind a needed instruction, later
  behind : (entry p q : Point) (a b : Frame) (line : Line) (rest : List Line) → Kin entry p a b → b.rest ≡ line ∷ rest →
      Kept (variables z.program) p q → (la lb : Locals) → LocalsAgree keeps q.pairing (length q.left) la lb → (ls rs : List ℕ) →
      SlotsKin entry q ls rs → (o o' : Option ℕ) → o ≡ o' →
      Kin entry q (record a { rest = needed_lines keeps rest; locals = la; slots = ls; awaits = o })
      (record b { rest = rest; locals = lb; slots = rs; awaits = o' })
  behind entry p q a b line rest kin e kq la lb l ls rs s o o' w = record {
    kept = kept_trans entry p q kin.kept kq;
    fixes = kin.fixes;
    function = kin.function;
    function' = kin.function';
    block = kin.block;
    rest = refl;
    end = kin.end;
    awaits = w;
    locals = l;
    slots = s;
    lines_closed = (subst (λ (x : List Line). LinesClosed keeps x) e kin.lines_closed).1;
    end_closed = kin.end_closed;
    short = let n = ap (λ (x : List Line). length x) e in omega (arith, kin.short);
  }

  at_needed : (entry p : Point) (a b : Frame) (place choice : ℕ) → Kin entry p a b → (line : Line) (rest : List Line) →
      b.rest ≡ line ∷ rest → is_needed keeps line ≡ true →
      IsAnswered (bounded z 1) (Holds entry) entry p.left (alone b p.right place)
      (act z.program.signature z.input a p.left place choice)
  at_needed entry p a b place choice kin line rest e yes' =
      let sig = z.program.signature in
      let fix' = kept_fixes (variables z.program) entry p kin.fixes kin.kept in
      let names = names_of z.program formed p fix' in
      let reads = (subst (λ (x : List Line). LinesClosed keeps x) e kin.lines_closed).0 yes' in
      let tasks = evaluate_agrees p.pairing (length p.left) (value_of sig a.locals) (value_of sig b.locals) line.instr
      (reads_agree sig p.pairing (length p.left) names keeps a.locals b.locals kin.locals line.instr reads) in
      let x = execute_alike sig p kin.kept.related z.input place choice (evaluate (value_of sig a.locals) line.instr)
      (evaluate (value_of sig b.locals) line.instr) tasks in
      let here : a.rest ≡ line ∷ needed_lines keeps rest =
      kin.rest ∙ ap (needed_lines keeps) e ∙ ap (λ (t : Bool). if t then line ∷ needed_lines keeps rest else needed_lines keeps
      rest) yes' in
      let a' : Frame = record a { rest = needed_lines keeps rest } in
      let b' : Frame = record b { rest = rest } in
      let r = answered_effects (bounded z 1) (omega arith) (Holds entry) entry p kin.kept fix' a' b b' line.local line.local
      place x.0 (execute sig z.input p.left place choice (evaluate (value_of sig a.locals) line.instr))
      (execute sig z.input p.right place x.0 (evaluate (value_of sig b.locals) line.instr))
      (act_at_line sig z.input b p.right place x.0 line rest e) x.1
      (λ q v v' slot slot' place' k' agree slots'. holds entry q _ _ place'
      (behind entry p q a b line rest kin e k' _ _ (bind_agrees keeps q line.local v v' a.locals b.locals agree
      (locals_later p q k' keeps a.locals b.locals kin.locals)) _ _
      (kin_more entry p q kin.kept slot slot' a.slots b.slots slots' (kin_later entry p q k' a.slots b.slots kin.slots)) a.awaits
      b.awaits kin.awaits))
      (λ q v v' place' k' agree. holds entry q _ _ place'
      (resumed q (record a' { awaits = line.local }) (record b' { awaits = line.local }) entry
      (behind entry p q a b line rest kin e k' a.locals b.locals (locals_later p q k' keeps a.locals b.locals kin.locals)
      a.slots b.slots (kin_later entry p q k' a.slots b.slots kin.slots) line.local line.local refl) v v' agree)) in
      subst (λ (y : Act). IsAnswered (bounded z 1) (Holds entry) entry p.left (alone b p.right place) y)
      (sym (act_at_line sig z.input a p.left place choice line (needed_lines keeps rest) here)) r

  jump : (entry p : Point) (a b : Frame) (place choice : ℕ) → Kin entry p a b → (o o' : Option Block) → BlockOf keeps k o o' →
      act z.program.signature z.input b p.right place choice ≡ enters_block z.program.signature b p.right place o' →
      IsAnswered (bounded z 1) (Holds entry) entry p.left (alone b p.right place) (enters_block z.program.signature a p.left place o)
  jump entry p a b place choice kin None None h e = breaks_at_once (bounded z 1) (omega arith) b p.right place choice _ e
  jump entry p a b place choice kin (Some y) (Some x) h e =
      let sig = z.program.signature in
      let names = names_of z.program formed p (kept_fixes (variables z.program) entry p kin.fixes kin.kept) in
      let l = phis_dropped sig p.pairing (length p.left) names keeps a.locals b.locals kin.locals a.block x.phis h.1.phis
      a.locals b.locals kin.locals in
      let l' = subst (λ (i : ℕ). LocalsAgree keeps p.pairing (length p.left)
      (phis_bound sig a.locals a.block (needed_phis keeps x.phis) a.locals) (phis_bound sig b.locals i x.phis b.locals))
      kin.block l in
      let go = answered_go (bounded z 1) (omega arith) (Holds entry) entry p
      (record a {
        block = x.number;
        rest = needed_lines keeps x.lines;
        end = x.end;
        locals = phis_bound sig a.locals a.block (needed_phis keeps x.phis) a.locals;
      }) b
      (record b { block = x.number; rest = x.lines; end = x.end; locals = phis_bound sig b.locals b.block x.phis b.locals })
      place choice e (holds entry p _ _ place (record {
        kept = kin.kept;
        fixes = kin.fixes;
        function = kin.function;
        function' = kin.function';
        block = refl;
        rest = refl;
        end = refl;
        awaits = kin.awaits;
        locals = l';
        slots = kin.slots;
        lines_closed = h.1.lines;
        end_closed = h.1.end;
        short = h.1.short;
      })) in
      subst (λ (c : Block). IsAnswered (bounded z 1) (Holds entry) entry p.left (alone b p.right place)
      (enters_block sig a p.left place (Some c))) (sym h.0) go
  jump entry p a b place choice kin None (Some x) h e = absurd h
  jump entry p a b place choice kin (Some y) None h e = absurd h

  at_exit : (entry p : Point) (a b : Frame) (place choice : ℕ) → Kin entry p a b → (x y : Exit) → ExitsAgree p x y →
      act z.program.signature z.input b p.right place choice ≡ exits z.program.signature b p.right place y →
      IsAnswered (bounded z 1) (Holds entry) entry p.left (alone b p.right place) (exits z.program.signature a p.left place x)
  at_exit entry p a b place choice kin x (Stuck cause) h e =
      answered_fails (bounded z 1) (Holds entry) entry p.left (alone b p.right place)
      (breaks_at_once (bounded z 1) (omega arith) b p.right place choice _ e) (exits z.program.signature a p.left place x)
  at_exit entry p a b place choice kin (Leaves v) (Leaves u) h e =
      let q : Point = record { pairing = p.pairing; left = kill a.slots p.left; right = kill b.slots p.right } in
      answered_return (bounded z 1) (omega arith) (Holds entry) entry p q
      (kin_killed (variables z.program) b.slots a.slots entry p kin.fixes kin.kept kin.slots) b place choice v u e (returned v u h)
    where
      size : (ls : List ℕ) (m : Memory) → length (kill ls m) ≡ length m
      size [] m = refl
      size (l ∷ ls) m = size ls (end_life m l (slice_get m l)) ∙ ended m l (slice_get m l)
        where
          ended : (m : Memory) (l : ℕ) (o : Option MemoryBlock) → length (end_life m l o) ≡ length m
          ended m l None = refl
          ended m l (Some x) = length-set m l (dead x)

      returned : (v u : Option Value) → ValuesAgree p v u → AnswersAgree p.pairing (length (kill a.slots p.left)) v u
      returned v u h' = subst (λ (n : ℕ). AnswersAgree p.pairing n v u) (sym (size a.slots p.left)) h'
  at_exit entry p a b place choice kin (Leads' s) (Leads' t) h e =
      let sig = z.program.signature in
      let o = found_block keeps k f.blocks closed s in
      let e' : act sig z.input b p.right place choice ≡ enters_block sig b p.right place (find_block f.blocks s) =
      e ∙ ap (λ (i : ℕ). enters_block sig b p.right place (find_block b.function.blocks i)) (sym h)
      ∙ ap (λ (g : Function). enters_block sig b p.right place (find_block g.blocks s)) kin.function' in
      let j = jump entry p a b place choice kin (find_block (needed_blocks keeps f.blocks) s) (find_block f.blocks s) o e' in
      subst (λ (g : Function). IsAnswered (bounded z 1) (Holds entry) entry p.left (alone b p.right place)
      (enters_block sig a p.left place (find_block g.blocks s))) (sym kin.function) j
  at_exit entry p a b place choice kin (Stuck cause) (Leaves u) h e = absurd h
  at_exit entry p a b place choice kin (Stuck cause) (Leads' t) h e = absurd h
  at_exit entry p a b place choice kin (Leaves v) (Leads' t) h e = absurd h
  at_exit entry p a b place choice kin (Leads' s) (Leaves u) h e = absurd h

  at_first : (entry p : Point) (a b : Frame) (place choice : ℕ) → Kin entry p a b →
      (b.rest ≡ []) ⊎ ((line : Line) × (rest' : List Line) × (b.rest ≡ line ∷ rest') × (is_needed keeps line ≡ true)) →
      IsAnswered (bounded z 1) (Holds entry) entry p.left (alone b p.right place)
      (act z.program.signature z.input a p.left place choice)
  at_first entry p a b place choice kin (inr x) = at_needed entry p a b place choice kin x.0 x.1 x.2 x.3
  at_first entry p a b place choice kin (inl e) =
      let sig = z.program.signature in
      let names = names_of z.program formed p (kept_fixes (variables z.program) entry p kin.fixes kin.kept) in
      let closed' = subst (λ (t : Terminator). EndReads keeps t) (sym kin.end) kin.end_closed in
      let x = exit_agrees sig p names keeps a.locals b.locals kin.locals a.end closed' in
      let x' = subst (λ (t : Terminator). ExitsAgree p (exit_of (value_of sig a.locals) a.end)
      (exit_of (value_of sig b.locals) t)) kin.end x in
      let r = at_exit entry p a b place choice kin (exit_of (value_of sig a.locals) a.end)
      (exit_of (value_of sig b.locals) b.end) x' (act_at_end sig z.input b p.right place choice e) in
      subst (λ (y : Act). IsAnswered (bounded z 1) (Holds entry) entry p.left (alone b p.right place) y)
      (sym (act_at_end sig z.input a p.left place choice (kin.rest ∙ ap (needed_lines keeps) e))) r

  at_reached : (entry p : Point) (a b : Frame) (place choice : ℕ) → Kin entry p a b → Reaches entry p a b place b.rest →
      IsAnswered z (Holds entry) entry p.left (alone b p.right place) (act z.program.signature z.input a p.left place choice)
  at_reached entry p a b place choice kin (inl g) =
      answered_fails z (Holds entry) entry p.left (alone b p.right place)
      (record {
        steps = g.steps;
        few = omega (arith, g.few, kin.short, bound);
        seen = g.seen;
        later = g.later;
        front = g.front;
        failure = g.failure;
        leads = g.leads;
      }) (act z.program.signature z.input a p.left place choice)
  at_reached entry p a b place choice kin (inr r) =
      let y = at_first entry r.point a r.frame place choice r.kin r.first in
      let y' = subst (λ (m : Memory). IsAnswered (bounded z 1) (Holds entry) entry m (alone r.frame r.point.right place)
      (act z.program.signature z.input a m place choice)) r.left y in
      answered_after z r.steps 1 (omega (arith, r.few, kin.short, bound)) (Holds entry) entry p.left (alone b p.right place)
      (alone r.frame r.point.right place) r.leads refl (act z.program.signature z.input a p.left place choice) y'

  step_answered : (entry : Point) (a : Frame) (m : Memory) (s : State) → Holds entry a m s → (choice : ℕ) →
      IsAnswered z (Holds entry) entry m s (act z.program.signature z.input a m s.place choice)
  step_answered entry a m s h choice =
      let p = h.point in
      let r = at_reached entry p a h.frame h.place choice h.kin (reach h.frame.rest entry p a h.frame h.place h.kin refl) in
      let r' = subst (λ (c : Memory). IsAnswered z (Holds entry) entry c (alone h.frame p.right h.place)
      (act z.program.signature z.input a c h.place choice)) h.left r in
      subst (λ (t : State). IsAnswered z (Holds entry) entry m t (act z.program.signature z.input a m t.place choice)) (sym h.is) r'

  params_agree : (w : Pairing) (n : ℕ) (ps : List Param) (vs us : List Value) → AllAgree w n vs us →
      LocalsAgree keeps w n (params_bound ps vs) (params_bound ps us)
  params_agree w n [] vs us h y kept = tt
  params_agree w n (x ∷ ps) [] [] h y kept = tt
  params_agree w n (x ∷ ps) (v ∷ vs) (u ∷ us) h y kept = if_agrees w n (x.local == y) v (look_up (params_bound ps vs) y) u
      (look_up (params_bound ps us) y) h.0 (params_agree w n ps vs us h.1 y kept)
  params_agree w n (x ∷ ps) [] (u ∷ us) h y kept = absurd h
  params_agree w n (x ∷ ps) (v ∷ vs) [] h y kept = absurd h

  enters_kin : (entry : Point) → Related entry → Fixes (variables z.program) entry → (bs : List Block) →
      BlocksClosed keeps k bs → (ls rs : Locals) → LocalsAgree keeps entry.pairing (length entry.left) ls rs →
      Kin entry entry (enter_at (needed keeps f) (needed_blocks keeps bs) ls) (enter_at f bs rs)
  enters_kin entry rel fix [] c ls rs h = record {
    kept = kept_refl entry rel;
    fixes = fix;
    function = refl;
    function' = refl;
    block = refl;
    rest = refl;
    end = refl;
    awaits = refl;
    locals = h;
    slots = refl;
    lines_closed = tt;
    end_closed = tt;
    short = omega arith;
  }
  enters_kin entry rel fix (b ∷ bs) c ls rs h =
      record {
        kept = kept_refl entry rel;
        fixes = fix;
        function = refl;
        function' = refl;
        block = refl;
        rest = refl;
        end = refl;
        awaits = refl;
        locals = h;
        slots = refl;
        lines_closed = c.0.lines;
        end_closed = c.0.end;
        short = c.0.short;
      }

  enter_kin : (entry : Point) → Related entry → Fixes (variables z.program) entry → (vs us : List Value) →
      ArgumentsAgree entry vs us → Kin entry entry (enter (needed keeps f) vs) (enter f us)
  unfolding enter
  enter_kin entry rel fix vs us h = enters_kin entry rel fix f.blocks closed (params_bound f.params vs)
      (params_bound f.params us) (params_agree entry.pairing (length entry.left) f.params vs us h)

pub needed_is_better : NeededBetter
needed_is_better p formed keeps k f closed input n entry vs us place rel fix agree =
    let z : Setting = record { program = p; input = input; bound = k + 1 } in
    near_by z (Holds z formed keeps k f closed (omega arith)) (step_answered z formed keeps k f closed (omega arith)) n entry
    (enter (needed keeps f) vs) entry.left (alone (enter f us) entry.right place)
    (holds z formed keeps k f closed (omega arith) entry entry (enter (needed keeps f) vs) (enter f us) place
    (enter_kin z formed keeps k f closed (omega arith) entry rel fix vs us agree))
