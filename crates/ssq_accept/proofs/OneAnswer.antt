-- A file has one answer.
use Rattle.std.proofs.Common.{◌≡◌, ◌∙◌, inl, inr, ⊎_elim, ap, sym, refl, subst, ℕ, ◌<◌, true, false, arith, List, [], ◌∷◌, get_or, Result, Ok, Err}
use Rattle.std.proofs.lemmas.Bool.{cases_lt}
use Rattle.ssq_accept.specs.declared.refusal.Refusal.TheVariants as refusal
use Rattle.ssq_ast.specs.declared.query.Query.{Query}
use Rattle.ssq_bind.specs.Bound.{bound_of}
use Rattle.ssq_check.specs.declared.fault.BindFault.{BindFault}
use Rattle.ssq_check.specs.declared.fault.Cause.{Cause}
use Rattle.ssq_check.specs.declared.fault.Cause.TheVariants as cause
use Rattle.ssq_check.specs.Fault.{rank, AreNone, IsNoLater}
use Rattle.ssq_check.specs.Whole.{QueryFaults}
use Rattle.ssq_modes.specs.declared.fault.ModeFault.{ModeFault}
use Rattle.ssq_modes.specs.declared.fault.ModeFault.TheVariants as mode
use Rattle.ssq_modes.specs.Modes as modes
use Rattle.ssq_parse.specs.declared.fault.ParseCause.{ParseCause}
use Rattle.ssq_parse.specs.File.{Fault, query_of}
use Rattle.ssq_shape.specs.declared.bound.Bound.{Bound}
use Rattle.ssq_accept.specs.Accepting.{IsRead, HasFault, Breaks, Forbids, MayRun, IsBroken, IsForbidden, AcceptedAreTaken, AreRefusedAlike}

ok_same : (found : Result Query Fault) (x y : Query) → found ≡ Ok x → found ≡ Ok y → y ≡ x
ok_same found x y is also = cc

ok_or_fault : (found : Result Query Fault) (x : Query) (y : Fault) → found ≡ Ok x → found ≡ Err y → ⊥
ok_or_fault found x y is fault = absurd cc

-- a file is read as one query
one_query : (file : List ℕ) (query other : Query) → IsRead file query → IsRead file other → other ≡ query
one_query file query other is also = ok_same (query_of file) query other is.read also.read

no_fault : (file : List ℕ) (query : Query) (at : ℕ) (cause : ParseCause) → IsRead file query → HasFault file at cause → ⊥
no_fault file query at cause is fault = ok_or_fault (query_of file) query (record { at = at; cause = cause }) is.read fault

no_broken : (query : Query) (fault : BindFault) → AreNone (QueryFaults query) → Breaks query fault → ⊥
no_broken query fault none breaks = none fault.cause fault.at breaks.is

no_forbidden : (bound : Bound) (fault : ModeFault) → MayRun bound → Forbids bound fault → ⊥
no_forbidden bound fault may forbids = apart (sym forbids.stands ∙ may fault)
  where
    apart : true ≡ false → ⊥
    apart same = absurd cc

pub accepted_are_taken : AcceptedAreTaken
accepted_are_taken file query bound (refusal.Parse at cause) is why = absurd (no_fault file query at cause is.read why)
accepted_are_taken file query bound (refusal.Bind fault) is why =
    absurd (no_broken query fault is.names.unbroken (subst (λ (q : Query). Breaks q fault) (one_query file query why.query is.read why.read) why.breaks))
accepted_are_taken file query bound (refusal.Mode fault) is why =
    absurd (no_forbidden bound fault is.may_run (subst (λ (b : Bound). Forbids b fault) (ap bound_of (one_query file query why.query is.read why.read) ∙ sym is.names.is) why.forbids))
accepted_are_taken file query bound refusal.NoMemory is why = refl

-- ---- two refusals

-- of a list in which each stands at its rank, those of one rank are the same
one_rank : {A : Type 0} (rank : A → ℕ) (all : List A) (last : A) → ((x : A) → get_or all (rank x) last ≡ x) → (x y : A) → rank x ≡ rank y → x ≡ y
one_rank rank all last is x y same = sym (is x) ∙ ap (λ n. get_or all n last) same ∙ is y

abbrev causes : List Cause
causes =
    cause.UnknownName ∷ cause.DoubleName ∷ cause.WrongType ∷ cause.BadDivisor ∷ cause.NotGrouped ∷ cause.AggregateHere ∷ cause.TooMany ∷ cause.BadBound ∷ cause.BadWindow
    ∷ cause.TwoStateful ∷ cause.Distinct ∷ []

cause_is : (c : Cause) → get_or causes (rank c) cause.Limit ≡ c
cause_is cause.Limit = refl
cause_is _ = refl

abbrev faults : List ModeFault
faults =
    mode.AppendNeedsWatermark ∷ mode.CompleteNeedsAggregate ∷ mode.JoinNeedsAppend ∷ mode.OuterNeedsBound ∷ mode.BoundNeedsWatermark ∷ mode.SortNeedsComplete ∷ mode.HavingInUpdate ∷ []

fault_is : (f : ModeFault) → get_or faults (modes.rank f) mode.KeyNotShown ≡ f
fault_is mode.KeyNotShown = refl
fault_is _ = refl

-- each of two places is not beyond the other, and at one place neither cause is
same_place : (f g : BindFault) → IsNoLater f g.cause g.at → IsNoLater g f.cause f.at → (f.at ≡ g.at) × (rank f.cause ≡ rank g.cause)
same_place f g (inl less) (inl more) = absurd (omega (arith, less, more))
same_place f g (inl less) (inr more) = absurd (omega (arith, less, more.0))
same_place f g (inr less) (inl more) = absurd (omega (arith, less.0, more))
same_place f g (inr less) (inr more) = (less.0, omega (arith, less.1, more.1))

one_broken : (query : Query) (f g : BindFault) → Breaks query f → Breaks query g → f ≡ g
one_broken query f g is also =
    let p = same_place f g (is.least g.cause g.at also.is) (also.least f.cause f.at is.is) in
    let same : f.cause ≡ g.cause = one_rank rank causes cause.Limit cause_is f.cause g.cause p.1 in
    λ i. record { at = p.0 i; cause = same i }

one_forbidden : (bound : Bound) (f g : ModeFault) → Forbids bound f → Forbids bound g → f ≡ g
one_forbidden bound f g is also = one_rank modes.rank faults mode.KeyNotShown fault_is f g ranks
  where
    apart : true ≡ false → ⊥
    apart same = absurd cc

    neither : (m n : ℕ) → (m < n → ⊥) → (n < m → ⊥) → m ≡ n
    neither m n less more = ⊎_elim (λ l. absurd (less l)) (λ h. ⊎_elim (λ l. absurd (more l)) (λ k. omega (arith, h, k)) (cases_lt n m)) (cases_lt m n)

    ranks : modes.rank f ≡ modes.rank g
    ranks = neither (modes.rank f) (modes.rank g) (λ less. apart (sym is.stands ∙ also.first f less)) (λ more. apart (sym also.stands ∙ is.first g more))

fault_same : (found : Result Query Fault) (x y : Fault) → found ≡ Err x → found ≡ Err y → x ≡ y
fault_same found x y is also = cc

one_fault : (file : List ℕ) (at at' : ℕ) (c c' : ParseCause) → HasFault file at c → HasFault file at' c' → refusal.Parse at c ≡ refusal.Parse at' c'
one_fault file at at' c c' is also = ap (λ (f : Fault). refusal.Parse f.at f.cause) (fault_same (query_of file) (record { at = at; cause = c }) (record { at = at'; cause = c' }) is also)

module _ (file : List ℕ) where
  fault_or_broken : (at : ℕ) (c : ParseCause) (query : Query) → HasFault file at c → IsRead file query → ⊥
  fault_or_broken at c query is read = no_fault file query at c read is

  broken_or_forbidden : (f : BindFault) (g : ModeFault) → IsBroken file f → IsForbidden file g → ⊥
  broken_or_forbidden f g is also = no_broken also.query f also.unbroken (subst (λ (q : Query). Breaks q f) (one_query file also.query is.query also.read is.read) is.breaks)

  alike_broken : (f g : BindFault) → IsBroken file f → IsBroken file g → refusal.Bind f ≡ refusal.Bind g
  alike_broken f g is also = ap refusal.Bind (one_broken also.query f g (subst (λ (q : Query). Breaks q f) (one_query file also.query is.query also.read is.read) is.breaks) also.breaks)

  alike_forbidden : (f g : ModeFault) → IsForbidden file f → IsForbidden file g → refusal.Mode f ≡ refusal.Mode g
  alike_forbidden f g is also = ap refusal.Mode (one_forbidden (bound_of also.query) f g (subst (λ (q : Query). Forbids (bound_of q) f) (one_query file also.query is.query also.read is.read) is.forbids) also.forbids)

pub are_refused_alike : AreRefusedAlike
are_refused_alike file refusal.NoMemory other is also = inl refl
are_refused_alike file (refusal.Parse at c) refusal.NoMemory is also = inr (inl refl)
are_refused_alike file (refusal.Parse at c) (refusal.Parse at' c') is also = inr (inr (one_fault file at at' c c' is also))
are_refused_alike file (refusal.Parse at c) (refusal.Bind g) is also = absurd (fault_or_broken file at c also.query is also.read)
are_refused_alike file (refusal.Parse at c) (refusal.Mode g) is also = absurd (fault_or_broken file at c also.query is also.read)
are_refused_alike file (refusal.Bind f) refusal.NoMemory is also = inr (inl refl)
are_refused_alike file (refusal.Bind f) (refusal.Parse at c) is also = absurd (fault_or_broken file at c is.query also is.read)
are_refused_alike file (refusal.Bind f) (refusal.Bind g) is also = inr (inr (alike_broken file f g is also))
are_refused_alike file (refusal.Bind f) (refusal.Mode g) is also = absurd (broken_or_forbidden file f g is also)
are_refused_alike file (refusal.Mode f) refusal.NoMemory is also = inr (inl refl)
are_refused_alike file (refusal.Mode f) (refusal.Parse at c) is also = absurd (fault_or_broken file at c is.query also is.read)
are_refused_alike file (refusal.Mode f) (refusal.Bind g) is also = absurd (broken_or_forbidden file g f also is)
are_refused_alike file (refusal.Mode f) (refusal.Mode g) is also = inr (inr (alike_forbidden file f g is also))
