-- What told files hold follows from what their fetches gave.
use Rattle.std.proofs.Common.{ℕ, ◌≡◌, ◌<◌, ◌^◌, List, [], ◌∷◌, ◌++◌, map, Option, Some, None, Ok, Err, refl, sym, ◌∙◌, ap, arith, length, subst, inl, inr}
use Rattle.std.specs.List.{AllZip}
use Rattle.ir_tree.specs.declared.module.Module.{Module}
use Rattle.link_one.specs.Accepted.{Accepts}
use Rattle.link_one.specs.Laws.{AcceptedIsNotRefused, AcceptedIsOne, RefusedIsOne}
use Rattle.lto_fault.specs.declared.kind.RefusalKind.{RefusalKind}
use Rattle.lto_words.specs.Fetching.{fetch_calls}
use Rattle.lto_outside.specs.Calls.{Call, Fetched, NoPut, Put}
use Rattle.lto_outside.specs.Replay.{Follows, Replays}
use Rattle.lto_outside.specs.Store.{SameFiles, Stays, Store}
use Rattle.lto_outside.specs.declared.fault.FetchFault.TheVariants.{Fault, NoMemory, TooLong}
use Rattle.thinlto_main.specs.Modules.{FirstBad, IsBad, IsRead, bytes_of}
use Rattle.thinlto_main.specs.Holding.{AreBad, HoldFirstBad, Holds, HoldsBad, HoldsModule}

-- calls without a put leave the files as they were
replays_same : (old new : Store) (calls : List Call) → NoPut calls → Replays old calls new → SameFiles old new
replays_same old new [] calm r = r
replays_same old new (Fetched name (Ok bytes) ∷ calls) calm r = replays_same old new calls calm r.1
replays_same old new (Fetched name (Err TooLong) ∷ calls) calm r = replays_same old new calls calm r.1
replays_same old new (Fetched name (Err Fault) ∷ calls) calm r = replays_same old new calls calm r
replays_same old new (Fetched name (Err NoMemory) ∷ calls) calm r = replays_same old new calls calm r
replays_same old new (Put name bytes done ∷ calls) calm r = absurd calm

pub follows_same : (old new : Option Store) (calls : List Call) → NoPut calls → Follows old calls new → Stays old new
follows_same None new calls calm f = tt
follows_same (Some old) None calls calm f = f
follows_same (Some old) (Some new) calls calm f = replays_same old new calls calm f

-- what a fetch gives is what is held
abbrev pub Gives : Store → List ℕ → Option (List ℕ) → Type 0
Gives held name (Some bytes) = held name ≡ Some bytes
Gives held name None = (bytes : List ℕ) × (held name ≡ Some bytes) × (2 ^ 24 < length bytes)

pub fetches_give : (old new : Store) (names : List (List ℕ)) (given : List (Option (List ℕ))) → length given ≡ length names → Replays old (fetch_calls names given) new → AllZip (Gives old) names given
fetches_give old new [] [] each r = tt
fetches_give old new [] (g ∷ given) each r = absurd (omega (arith, each))
fetches_give old new (name ∷ names) [] each r = absurd (omega (arith, each))
fetches_give old new (name ∷ names) (Some bytes ∷ given) each r = (r.0, fetches_give old new names given (omega (arith, each)) r.1)
fetches_give old new (name ∷ names) (None ∷ given) each r = (r.0, fetches_give old new names given (omega (arith, each)) r.1)

-- fetches in front of other calls
pub fetches_then : (old new : Store) (names : List (List ℕ)) (given : List (Option (List ℕ))) (rest : List Call) → length given ≡ length names → Replays old (fetch_calls names given ++ rest) new
    → AllZip (Gives old) names given × Replays old rest new
fetches_then old new [] [] rest each r = (tt, r)
fetches_then old new [] (g ∷ given) rest each r = absurd (omega (arith, each))
fetches_then old new (name ∷ names) [] rest each r = absurd (omega (arith, each))
fetches_then old new (name ∷ names) (Some bytes ∷ given) rest each r = let more = fetches_then old new names given rest (omega (arith, each)) r.1 in ((r.0, more.0), more.1)
fetches_then old new (name ∷ names) (None ∷ given) rest each r = let more = fetches_then old new names given rest (omega (arith, each)) r.1 in ((r.0, more.0), more.1)

module _ (held : Store) where
  held_module : (name : List ℕ) (g : Option (List ℕ)) (m : Module) → Gives held name g → IsRead g m → HoldsModule held name m
  held_module name None m gives read = absurd read
  held_module name (Some bytes) m gives read = record { bytes = bytes; here = gives; short = read.0; accepted = read.1 }

  held_bad : (name : List ℕ) (g : Option (List ℕ)) (line : ℕ) (kind : RefusalKind) → Gives held name g → IsBad g line kind → HoldsBad held name line kind
  held_bad name None line kind gives bad = record { bytes = gives.0; here = gives.1; fault = inl (gives.2, bad.0, bad.1) }
  held_bad name (Some bytes) line kind gives bad = record { bytes = bytes; here = gives; fault = inr bad }

  pub held_modules : (names : List (List ℕ)) (given : List (Option (List ℕ))) (ms : List Module) → AllZip (Gives held) names given → AllZip IsRead given ms → AllZip (HoldsModule held) names ms
  held_modules [] [] [] gives read = tt
  held_modules [] [] (m ∷ ms) gives read = absurd read
  held_modules [] (g ∷ given) ms gives read = absurd gives
  held_modules (name ∷ names) [] ms gives read = absurd gives
  held_modules (name ∷ names) (g ∷ given) [] gives read = absurd read
  held_modules (name ∷ names) (g ∷ given) (m ∷ ms) gives read = (held_module name g m gives.0 read.0, held_modules names given ms gives.1 read.1)

  pub held_first_bad : (names : List (List ℕ)) (given : List (Option (List ℕ))) (file : List ℕ) (line : ℕ) (kind : RefusalKind) → AllZip (Gives held) names given
      → FirstBad names given file line kind → HoldFirstBad held names file line kind
  held_first_bad [] given file line kind gives bad = absurd bad
  held_first_bad (name ∷ names) [] file line kind gives bad = absurd bad
  held_first_bad (name ∷ names) (g ∷ given) file line kind gives (inl bad) = inl (bad.0, held_bad name g line kind gives.0 bad.1)
  held_first_bad (name ∷ names) (g ∷ given) file line kind gives (inr (read, bad)) = inr ((read.0, held_module name g read.0 gives.0 read.1), held_first_bad names given file line kind gives.1 bad)

  held_input : (name : List ℕ) (g : Option (List ℕ)) (m : Module) → Gives held name g → IsRead g m → Holds held name (bytes_of g)
  held_input name None m gives read = absurd read
  held_input name (Some bytes) m gives read = (gives, read.0)

  pub held_inputs : (names : List (List ℕ)) (given : List (Option (List ℕ))) (ms : List Module) → AllZip (Gives held) names given → AllZip IsRead given ms → AllZip (Holds held) names (map bytes_of given)
  held_inputs [] [] ms gives read = tt
  held_inputs [] (g ∷ given) ms gives read = absurd gives
  held_inputs (name ∷ names) [] ms gives read = absurd gives
  held_inputs (name ∷ names) (g ∷ given) [] gives read = absurd read
  held_inputs (name ∷ names) (g ∷ given) (m ∷ ms) gives read = (held_input name g m gives.0 read.0, held_inputs names given ms gives.1 read.1)

  -- ---- what is held is one list of modules, or has one first fault

  same_bytes : (name bytes other : List ℕ) → held name ≡ Some bytes → held name ≡ Some other → bytes ≡ other
  same_bytes name bytes other a b = let both : Some bytes ≡ Some other = sym a ∙ b in cc

  pub one_inputs : (names inputs others : List (List ℕ)) → AllZip (Holds held) names inputs → AllZip (Holds held) names others → inputs ≡ others
  one_inputs [] [] [] a b = refl
  one_inputs [] [] (other ∷ others) a b = absurd b
  one_inputs [] (bytes ∷ inputs) others a b = absurd a
  one_inputs (name ∷ names) [] others a b = absurd a
  one_inputs (name ∷ names) (bytes ∷ inputs) [] a b = absurd b
  one_inputs (name ∷ names) (bytes ∷ inputs) (other ∷ others) a b =
      let first : bytes ≡ other = same_bytes name bytes other a.0.0 b.0.0 in
      let rest : inputs ≡ others = one_inputs names inputs others a.1 b.1 in
      λ i. first i ∷ rest i

  pub hold_modules : (names inputs : List (List ℕ)) (ms : List Module) → AllZip (Holds held) names inputs → AllZip Accepts inputs ms → AllZip (HoldsModule held) names ms
  hold_modules [] [] [] there accepted = tt
  hold_modules [] [] (m ∷ ms) there accepted = absurd accepted
  hold_modules [] (bytes ∷ inputs) ms there accepted = absurd there
  hold_modules (name ∷ names) [] ms there accepted = absurd there
  hold_modules (name ∷ names) (bytes ∷ inputs) [] there accepted = absurd accepted
  hold_modules (name ∷ names) (bytes ∷ inputs) (m ∷ ms) there accepted =
      (record { bytes = bytes; here = there.0.0; short = there.0.1; accepted = accepted.0 }, hold_modules names inputs ms there.1 accepted.1)

  pub one_list : AcceptedIsOne → (names : List (List ℕ)) (ms ns : List Module) → AllZip (HoldsModule held) names ms → AllZip (HoldsModule held) names ns → ms ≡ ns
  one_list one [] [] [] a b = refl
  one_list one [] [] (n ∷ ns) a b = absurd b
  one_list one [] (m ∷ ms) ns a b = absurd a
  one_list one (name ∷ names) [] ns a b = absurd a
  one_list one (name ∷ names) (m ∷ ms) [] a b = absurd b
  one_list one (name ∷ names) (m ∷ ms) (n ∷ ns) a b =
      let bytes : b.0.bytes ≡ a.0.bytes = same_bytes name b.0.bytes a.0.bytes b.0.here a.0.here in
      let first : m ≡ n = one a.0.bytes m n a.0.accepted (subst (λ (l : List ℕ). Accepts l n) bytes b.0.accepted) in
      let rest : ms ≡ ns = one_list one names ms ns a.1 b.1 in λ i. first i ∷ rest i

  not_both : AcceptedIsNotRefused → (name : List ℕ) (m : Module) (line : ℕ) (kind : RefusalKind) → HoldsModule held name m → HoldsBad held name line kind → ⊥
  not_both apart name m line kind good bad = at bad.fault
    where
      same : good.bytes ≡ bad.bytes
      same = same_bytes name good.bytes bad.bytes good.here bad.here

      at : AreBad bad.bytes line kind → ⊥
      at (inl long) = absurd (omega (arith, ap length same, good.short, long.0))
      at (inr refuses) = apart bad.bytes m line kind (subst (λ (l : List ℕ). Accepts l m) same good.accepted) refuses.1

  pub none_bad : AcceptedIsNotRefused → (names : List (List ℕ)) (ms : List Module) (file : List ℕ) (line : ℕ) (kind : RefusalKind) → AllZip (HoldsModule held) names ms → HoldFirstBad held names file line kind → ⊥
  none_bad apart [] ms file line kind good bad = bad
  none_bad apart (name ∷ names) [] file line kind good bad = good
  none_bad apart (name ∷ names) (m ∷ ms) file line kind good (inl bad) = not_both apart name m line kind good.0 bad.1
  none_bad apart (name ∷ names) (m ∷ ms) file line kind good (inr (first, bad)) = none_bad apart names ms file line kind good.1 bad

  one_fault : RefusedIsOne → (name : List ℕ) (line other : ℕ) (kind another : RefusalKind) → HoldsBad held name line kind → HoldsBad held name other another → (line ≡ other) × (kind ≡ another)
  one_fault one name line other kind another a b = by (subst (λ (l : List ℕ). AreBad l line kind) (same_bytes name a.bytes b.bytes a.here b.here) a.fault) b.fault
    where
      by : AreBad b.bytes line kind → AreBad b.bytes other another → (line ≡ other) × (kind ≡ another)
      by (inl x) (inl y) = (x.1 ∙ sym y.1, x.2 ∙ sym y.2)
      by (inl x) (inr y) = absurd (omega (arith, x.0, y.0))
      by (inr x) (inl y) = absurd (omega (arith, x.0, y.0))
      by (inr x) (inr y) = one b.bytes line other kind another x.1 y.1

  pub one_first_bad : AcceptedIsNotRefused → RefusedIsOne → (names : List (List ℕ)) (file other_file : List ℕ) (line other : ℕ) (kind another : RefusalKind)
      → HoldFirstBad held names file line kind → HoldFirstBad held names other_file other another → (file ≡ other_file) × (line ≡ other) × (kind ≡ another)
  one_first_bad apart one [] file other_file line other kind another a b = absurd a
  one_first_bad apart one (name ∷ names) file other_file line other kind another (inl a) (inl b) =
      let fault = one_fault one name line other kind another a.1 b.1 in (a.0 ∙ sym b.0, fault.0, fault.1)
  one_first_bad apart one (name ∷ names) file other_file line other kind another (inl a) (inr (m, b)) = absurd (not_both apart name m.0 line kind m.1 a.1)
  one_first_bad apart one (name ∷ names) file other_file line other kind another (inr (m, a)) (inl b) = absurd (not_both apart name m.0 other another m.1 b.1)
  one_first_bad apart one (name ∷ names) file other_file line other kind another (inr (m, a)) (inr (n, b)) = one_first_bad apart one names file other_file line other kind another a b
