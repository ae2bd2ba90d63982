-- What symbols are that nobody names changes no run.
use Rattle.std.proofs.Common.{◌≡◌, ℕ, suc, ◌<◌, ◌≤◌, Bool, true, false, if◌then◌else◌, List, [], ◌∷◌, ◌++◌, length, replicate, map, Option, Some, None, slice_get, ◌⊎◌, inl, inr, refl, sym, ap, ◌∙◌, subst, arith, append-nil}
use Rattle.std.proofs.lemmas.Bool.{cases_lt}
use Rattle.ir_tree.specs.declared.function.Function.{Function}
use Rattle.ir_tree.specs.declared.operand.Symbol.{Symbol}
use Rattle.ir_meaning.specs.Act.{enter}
use Rattle.ir_meaning.specs.Frame.{Missing}
use Rattle.ir_meaning.specs.Memory.{MemoryBlock}
use Rattle.ir_meaning.specs.Program.{Failure, Program, State, variables}
use Rattle.ir_meaning.specs.Refine.{AnswerMayStandFor, Matched, MayStandFor, Naming, RefinesFrom, SameCell, SameEnding, own_names}
use Rattle.ir_meaning.specs.Run.{Ending, Failed, Ran, Returned, Running, run, start, start_of}
use Rattle.ir_meaning.specs.declared.value.Base.TheVariants.{Cell, Code, Nowhere}
use Rattle.ir_meaning.specs.declared.value.Value.{Value}
use Rattle.ir_meaning.specs.declared.value.Value.TheVariants.{Number, Pointer, Poison}
use Rattle.ir_meaning.specs.Rename.{BlocksName, BytesName, CodeUnder, IsKeptOf, IsRenamed, cell_under}
use Rattle.ir_meaning.proofs.Names.Kept.{filled_right}
use Rattle.ir_meaning.proofs.Names.Moved.{cell_slot, cell_variable, value_under}
use Rattle.ir_meaning.proofs.Names.Renamed.{EndingUnder, RanUnder, maybe_value, ran_from}
use Rattle.merge_meaning.proofs.Names.{code_stays, kind_stays, maybe_stays}

-- the program without the symbols that are not kept; memory stays
abbrev pub restricted : (Symbol → Bool) → Program → Program
restricted keeps q = record {
  signature = record { kind = λ s. if keeps s then q.signature.kind s else Missing };
  code = λ s. if keeps s then q.code s else None;
  opening = q.opening;
}

pub kept_kind : (keeps : Symbol → Bool) (q : Program) (s : Symbol) → keeps s ≡ true → (restricted keeps q).signature.kind s ≡ q.signature.kind s
kept_kind keeps q s k = ap (λ (b : Bool). if b then q.signature.kind s else Missing) k

pub kept_code : (keeps : Symbol → Bool) (q : Program) (s : Symbol) → keeps s ≡ true → (restricted keeps q).code s ≡ q.code s
kept_code keeps q s k = ap (λ (b : Bool). if b then q.code s else None) k

pub other_gone : (keeps : Symbol → Bool) (q : Program) (s : Symbol) → keeps s ≡ false
    → ((restricted keeps q).signature.kind s ≡ Missing) × ((restricted keeps q).code s ≡ None)
other_gone keeps q s k = (ap (λ (b : Bool). if b then q.signature.kind s else Missing) k, ap (λ (b : Bool). if b then q.code s else None) k)

-- what is kept names kept symbols alone; names of symbols are of at most so many bytes
pub record NamesKept (keeps : Symbol → Bool) (most : ℕ) (q : Program) : Type 0 where
  pub short : (s : Symbol) → keeps s ≡ true → length s.name ≤ most
  pub longer : (s : Symbol) → most < length s.name → (q.signature.kind s ≡ Missing) × (q.code s ≡ None)
  pub closed : (s : Symbol) (f : Function) → (restricted keeps q).code s ≡ Some f → BlocksName keeps f.blocks
  pub pointers : (l : ℕ) (b : MemoryBlock) → slice_get q.opening l ≡ Some b → BytesName keeps b.bytes

-- a name that is too long for a symbol of the program
abbrev too_long : ℕ → ℕ → Symbol → Symbol
too_long most mark s = record { home = s.home; name = replicate (suc most) mark ++ s.name }

-- the name of a symbol in the whole program, under which no symbol has another's name: one that is not kept gets one that is too long
abbrev lengthened : (Symbol → Bool) → ℕ → ℕ → ℕ → Naming
lengthened keeps most mark g = record {
  symbol = λ s. if keeps s then s else too_long most mark s;
  variable = λ l. l;
  count = g;
  count' = g;
}

module _ (keeps : Symbol → Bool) (most : ℕ) (q : Program) (h : NamesKept keeps most q) where
  restricted_kept : IsKeptOf (own_names (variables q)) keeps most (restricted keeps q) q
  restricted_kept = record {
    count = refl;
    count' = refl;
    within = λ l lt. lt;
    one_to_one = λ l m a b e. e;
    symbols = λ s u a b e. e;
    short = h.short;
    longer = h.longer;
    kinds = λ s k. sym (kind_stays (variables q) ((restricted keeps q).signature.kind s) ∙ kept_kind keeps q s k);
    code = λ s k. subst (λ (o : Option Function). CodeUnder (own_names (variables q)) o (q.code s)) (sym (kept_code keeps q s k))
        (code_stays (own_names (variables q)) (λ u. refl) (q.code s));
    gone = λ s k. other_gone keeps q s k;
    closed = h.closed;
    opening = λ l lt. sym (maybe_stays (variables q) (slice_get q.opening l));
    pointers = h.pointers;
  }

  renamed : (mark : ℕ) → IsRenamed (lengthened keeps most mark (variables q)) (restricted keeps q) q
  renamed mark = filled_right (own_names (variables q)) keeps most mark (restricted keeps q) q restricted_kept

  -- ---- a symbol that is not kept would have two names

  symbol_one : (s : Symbol) → (lengthened keeps most 0 (variables q)).symbol s ≡ (lengthened keeps most 1 (variables q)).symbol s
      → (lengthened keeps most 0 (variables q)).symbol s ≡ s
  symbol_one s e = by (keeps s) e
    where
      by : (b : Bool) → (if b then s else too_long most 0 s) ≡ (if b then s else too_long most 1 s)
          → (if b then s else too_long most 0 s) ≡ s
      by true e = refl
      by false e =
          let names : 0 ∷ (replicate most 0 ++ s.name) ≡ 1 ∷ (replicate most 1 ++ s.name) = ap (λ (x : Symbol). x.name) e in
          absurd (cc names)

  cell_one : (l : ℕ) → SameCell (own_names (variables q)) (cell_under (lengthened keeps most 0 (variables q)) l) l
  cell_one l = by (cases_lt l (variables q))
    where
      by : (l < variables q) ⊎ (variables q ≤ l) → SameCell (own_names (variables q)) (cell_under (lengthened keeps most 0 (variables q)) l) l
      by (inl lt) = let x = cell_variable (lengthened keeps most 0 (variables q)) l lt in inl (omega (arith, x, lt), x)
      by (inr le) = let x = cell_slot (lengthened keeps most 0 (variables q)) l le in inr (omega (arith, x, le), le)

  value_one : (v : Value) → value_under (lengthened keeps most 0 (variables q)) v ≡ value_under (lengthened keeps most 1 (variables q)) v
      → MayStandFor (own_names (variables q)) (value_under (lengthened keeps most 0 (variables q)) v) v
  value_one (Number n) e = refl
  value_one Poison e = tt
  value_one (Pointer Nowhere i) e = (tt, refl)
  value_one (Pointer (Cell l) i) e = (cell_one l, refl)
  value_one (Pointer (Code s) i) e =
      let names : (lengthened keeps most 0 (variables q)).symbol s ≡ (lengthened keeps most 1 (variables q)).symbol s = cc e in
      (symbol_one s names, refl)

  answer_one : (v : Option Value) → maybe_value (lengthened keeps most 0 (variables q)) v ≡ maybe_value (lengthened keeps most 1 (variables q)) v
      → AnswerMayStandFor (own_names (variables q)) (maybe_value (lengthened keeps most 0 (variables q)) v) v
  answer_one None e = tt
  answer_one (Some v) e = value_one v (cc e)

  ending_one : (e y : Ending) → EndingUnder (lengthened keeps most 0 (variables q)) e y → EndingUnder (lengthened keeps most 1 (variables q)) e y
      → ((failure : Failure) → e ≡ Failed failure → ⊥) → SameEnding (own_names (variables q)) y e
  ending_one Running y a b sound = subst (λ (z : Ending). SameEnding (own_names (variables q)) z Running) (sym a) tt
  ending_one (Returned v) y a b sound =
      subst (λ (z : Ending). SameEnding (own_names (variables q)) z (Returned v)) (sym a) (answer_one v (cc (a, b)))
  ending_one (Failed failure) y a b sound = absurd (sound failure refl)

  -- ---- the run of the whole program is that of the program without the others

  matched_one : (input choices : List ℕ) (s : State) (ran : Ran) → RanUnder (lengthened keeps most 0 (variables q)) (run (restricted keeps q) input choices s) ran
      → RanUnder (lengthened keeps most 1 (variables q)) (run (restricted keeps q) input choices s) ran
      → (e : Ending) → (run (restricted keeps q) input choices s).ending ≡ e → Matched (own_names (variables q)) (restricted keeps q) input s ran
  matched_one input choices s ran a b (Failed failure) e =
      inl (record {
        choices = choices;
        failure = failure;
        ends = e;
        later = [];
        front = a.trace ∙ sym (append-nil (run (restricted keeps q) input choices s).trace);
      })
  matched_one input choices s ran a b Running e =
      inr (record {
        choices = choices;
        steps = omega (arith, a.steps);
        trace = sym a.trace;
        ending = ending_one (run (restricted keeps q) input choices s).ending ran.ending a.ending b.ending (λ failure w. cc (e, w));
      })
  matched_one input choices s ran a b (Returned v) e =
      inr (record {
        choices = choices;
        steps = omega (arith, a.steps);
        trace = sym a.trace;
        ending = ending_one (run (restricted keeps q) input choices s).ending ran.ending a.ending b.ending (λ failure w. cc (e, w));
      })

  from_one : (ns : List ℕ) (o : Option Function) → CodeUnder (lengthened keeps most 0 (variables q)) o o → CodeUnder (lengthened keeps most 1 (variables q)) o o
      → RefinesFrom (own_names (variables q)) q (restricted keeps q) (start_of o (map Number ns) q.opening) (start_of o (map Number ns) q.opening)
  from_one ns None a b = tt
  from_one ns (Some f) a b = λ input choices.
      let s : State = record { top = enter f (map Number ns); below = []; memory = q.opening; place = 0 } in
      matched_one input choices s (run q input choices s)
      (ran_from (lengthened keeps most 0 (variables q)) (restricted keeps q) q (renamed 0) ns f f a input choices)
      (ran_from (lengthened keeps most 1 (variables q)) (restricted keeps q) q (renamed 1) ns f f b input choices)
      (run (restricted keeps q) input choices s).ending refl

  kept_name : (mark : ℕ) (s : Symbol) → keeps s ≡ true → (lengthened keeps most mark (variables q)).symbol s ≡ s
  kept_name mark s k = ap (λ (b : Bool). if b then s else too_long most mark s) k

  code_one : (mark : ℕ) (s : Symbol) → keeps s ≡ true → CodeUnder (lengthened keeps most mark (variables q)) (q.code s) (q.code s)
  code_one mark s k =
      subst (λ (o : Option Function). CodeUnder (lengthened keeps most mark (variables q)) o (q.code s)) (kept_code keeps q s k)
      (subst (λ (u : Symbol). CodeUnder (lengthened keeps most mark (variables q)) ((restricted keeps q).code s) (q.code u)) (kept_name mark s k)
      ((renamed mark).code s))

  -- from a kept function the program refines itself without what is not kept
  pub unnamed : (root : Symbol) → keeps root ≡ true → (ns : List ℕ)
      → RefinesFrom (own_names (variables q)) q (restricted keeps q) (start q root (map Number ns)) (start (restricted keeps q) root (map Number ns))
  unnamed root k ns =
      subst (λ (o : Option Function). RefinesFrom (own_names (variables q)) q (restricted keeps q) (start_of (q.code root) (map Number ns) q.opening)
      (start_of o (map Number ns) q.opening)) (sym (kept_code keeps q root k))
      (from_one ns (q.code root) (code_one 0 root k) (code_one 1 root k))
