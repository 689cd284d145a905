-- What was written.
use Rattle.std.proofs.Common.{◌≡◌, ◌≢◌, ◌⊎◌, ◌++◌, ◌≤◌, ◌∙◌, arith, ℕ, List, Option, Some, None, Result, Ok, Err, refl, ap, sym, subst, inl, inr, length, take}
use Rattle.std.specs.Prelude.{OnOk, OnErr, IsSome}
use Rattle.std.proofs.Math.Seq.{take-length}
use Rattle.std.proofs.lemmas.List.{append-nil}
use Rattle.ssq_outside.specs.Faults.{Rises}
use Rattle.ssq_run.specs.declared.stop.Stop.{Stop}
use Rattle.ssq_run.specs.declared.stop.Stop.TheVariants.{Usage, LogFault, DiskFault, OutFault, NoMemory}
use Rattle.ssq_run.specs.Lines.{stop_line}
use Rattle.ssq_run.specs.Stopping.{status_of, status_in, HasCount, WordsCause}
use Rattle.ssq_run.specs.Program.{Wrote, whole, cut, cut_done, unsaid, starved, HasEnded, IsStatus}
use Rattle.ssq_words.specs.Asking.{asked}

-- a front was written, all of it or less
pub said : {E : Type 0} (result : Result (Unit {0}) E) (old new line : List ℕ) → OnOk result (new ≡ old ++ line) → OnErr result ((n : ℕ) × (new ≡ old ++ take n line)) → (n : ℕ) × (new ≡ old ++ take n line)
said (Ok done) old new line ok err = (length line, ok ∙ ap (λ l. old ++ l) (sym (take-length line)))
said (Err e) old new line ok err = err

-- all was written
pub wrote_whole : (stop : Option Stop) (told text old new : List ℕ) (before now status : ℕ) → HasEnded stop told status text → new ≡ old ++ text → Wrote stop told old new before now status
wrote_whole stop told text old new before now status (inl ended) put = whole ended.0 (put ∙ ap (λ t. old ++ t) ended.1)
wrote_whole stop told text old new before now status (inr short) put =
    unsaid short.1 short.0 (length told) (put ∙ ap (λ t. old ++ t) (short.2 ∙ sym (take-length told)))

some_stop : (stop : Stop) → Some stop ≡ None → ⊥
some_stop stop e = cc

-- the output failed, and the job was not done
pub wrote_cut : (stop : Option Stop) (told text old new : List ℕ) (before now status n : ℕ) → HasEnded stop told status text → (status ≡ 0 → ⊥) → Rises before now → new ≡ old ++ take n text → Wrote stop told old new before now status
wrote_cut None told text old new before now status n (inl ended) stopped rises put = absurd (stopped ended.0)
wrote_cut (Some stop) told text old new before now status n (inl ended) stopped rises put = cut ended.0 (some_stop stop) rises n (put ∙ ap (λ t. old ++ take n t) ended.1)
wrote_cut stop told text old new before now status n (inr short) stopped rises put =
    unsaid short.1 short.0 n (put ∙ ap (λ t. old ++ take n t) short.2)

-- memory ran out for what was to be written
pub wrote_starved : (stop : Option Stop) (told old mid new : List ℕ) (before now n : ℕ) → mid ≡ old → new ≡ mid ++ take n (stop_line NoMemory) → Wrote stop told old new before now 10
wrote_starved stop told old mid new before now n same put = starved refl n (put ∙ ap (λ c. c ++ take n (stop_line NoMemory)) same)

never_zero : (stop : Stop) → status_of stop ≡ 0 → ⊥
never_zero Usage e = absurd (omega (arith, e))
never_zero _ e = absurd (omega (arith, e))

-- the output failed where the job was done
pub wrote_done : (stop : Option Stop) (told text old mid new : List ℕ) (f0 f1 f2 status n m : ℕ) → HasEnded stop told status text → status ≡ 0 → Rises f0 f1 → f1 ≤ f2 → mid ≡ old ++ take n text → new ≡ mid ++ take m (stop_line OutFault) → Wrote stop told old new f0 f2 8
wrote_done None told text old mid new f0 f1 f2 status n m (inl ended) zero_status rises later first second =
    cut_done refl refl (omega (arith, rises, later)) n m (second ∙ ap (λ c. c ++ take m (stop_line OutFault)) (first ∙ ap (λ t. old ++ take n t) (ended.1 ∙ append-nil told)))
wrote_done (Some stop) told text old mid new f0 f1 f2 status n m (inl ended) zero_status rises later first second = absurd (never_zero stop (sym ended.0 ∙ zero_status))
wrote_done stop told text old mid new f0 f1 f2 status n m (inr short) zero_status rises later first second = absurd (omega (arith, short.1, zero_status))

-- counts that were lower before
pub status_since : (stop : Option Stop) (earlier before now status : ℕ) → earlier ≤ before → IsStatus stop before now status → IsStatus stop earlier now status
status_since stop earlier before now status less (inl is) = inl is
status_since stop earlier before now status less (inr (inl is)) = inr (inl (is.0, is.1, omega (arith, is.2, less)))
status_since stop earlier before now status less (inr (inr is)) = inr (inr is)

pub wrote_since : (stop : Option Stop) (told old new : List ℕ) (earlier before now status : ℕ) → earlier ≤ before → Wrote stop told old new before now status → Wrote stop told old new earlier now status
wrote_since stop told old new earlier before now status less (whole is put) = whole is put
wrote_since stop told old new earlier before now status less (cut is some rises n put) = cut is some (omega (arith, rises, less)) n put
wrote_since stop told old new earlier before now status less (cut_done is none rises n m put) = cut_done is none (omega (arith, rises, less)) n m put
wrote_since stop told old new earlier before now status less (unsaid is some n put) = unsaid is some n put
wrote_since stop told old new earlier before now status less (starved is n put) = starved is n put

-- the status tells the stop
status_is : (stop : Option Stop) (n before now status : ℕ) → n ≢ 8 → n ≢ 10 → IsStatus stop before now status → status ≡ n → status_in stop ≡ n
status_is stop n before now status eight ten (inl is) same = sym is ∙ same
status_is stop n before now status eight ten (inr (inl is)) same = absurd (eight (sym same ∙ is.0))
status_is stop n before now status eight ten (inr (inr is)) same = absurd (ten (sym same ∙ is))

usage_stop : (words : List (List ℕ)) (stop : Option Stop) → WordsCause words stop → status_in stop ≡ 2 → asked words ≡ None
usage_stop words (Some Usage) cause is = cause
usage_stop words None cause is = absurd (omega (arith, is))
usage_stop words (Some _) cause is = absurd (omega (arith, is))

pub usage_told : (words : List (List ℕ)) (stop : Option Stop) (before now status : ℕ) → WordsCause words stop → IsStatus stop before now status → status ≡ 2 → asked words ≡ None
usage_told words stop before now status cause answer same = usage_stop words stop cause (status_is stop 2 before now status (λ e. absurd (omega (arith, e))) (λ e. absurd (omega (arith, e))) answer same)

module _ (i0 i1 d0 d1 o0 o1 : ℕ) where
  log_stop : (stop : Option Stop) → HasCount i0 i1 d0 d1 o0 o1 stop → status_in stop ≡ 6 → Rises i0 i1
  log_stop (Some LogFault) cause is = cause
  log_stop None cause is = absurd (omega (arith, is))
  log_stop (Some _) cause is = absurd (omega (arith, is))

  disk_stop : (stop : Option Stop) → HasCount i0 i1 d0 d1 o0 o1 stop → status_in stop ≡ 7 → Rises d0 d1
  disk_stop (Some DiskFault) cause is = cause
  disk_stop None cause is = absurd (omega (arith, is))
  disk_stop (Some _) cause is = absurd (omega (arith, is))

  out_stop : (stop : Option Stop) → HasCount i0 i1 d0 d1 o0 o1 stop → status_in stop ≡ 8 → Rises o0 o1
  out_stop (Some OutFault) cause is = cause
  out_stop None cause is = absurd (omega (arith, is))
  out_stop (Some _) cause is = absurd (omega (arith, is))

  pub log_told : (stop : Option Stop) (before now status : ℕ) → HasCount i0 i1 d0 d1 o0 o1 stop → IsStatus stop before now status → status ≡ 6 → Rises i0 i1
  log_told stop before now status cause answer same = log_stop stop cause (status_is stop 6 before now status (λ e. absurd (omega (arith, e))) (λ e. absurd (omega (arith, e))) answer same)

  pub disk_told : (stop : Option Stop) (before now status : ℕ) → HasCount i0 i1 d0 d1 o0 o1 stop → IsStatus stop before now status → status ≡ 7 → Rises d0 d1
  disk_told stop before now status cause answer same = disk_stop stop cause (status_is stop 7 before now status (λ e. absurd (omega (arith, e))) (λ e. absurd (omega (arith, e))) answer same)

  -- the output failed before the end, or at it
  pub out_told : (stop : Option Stop) (o2 status : ℕ) → HasCount i0 i1 d0 d1 o0 o1 stop → o0 ≤ o1 → o1 ≤ o2 → IsStatus stop o1 o2 status → status ≡ 8 → Rises o0 o2
  out_told stop o2 status cause less later (inl is) same = let rises = out_stop stop cause (sym is ∙ same) in omega (arith, rises, later)
  out_told stop o2 status cause less later (inr (inl is)) same = let rises = is.2 in omega (arith, rises, less)
  out_told stop o2 status cause less later (inr (inr is)) same = absurd (omega (arith, is, same))

-- words that are no command are told so
no_words : (words : List (List ℕ)) → asked words ≡ None → IsSome (asked words) → ⊥
no_words words none some = cc

usage_only : (words : List (List ℕ)) (stop : Option Stop) → asked words ≡ None → WordsCause words stop → (status_in stop ≡ 2) ⊎ (status_in stop ≡ 10)
usage_only words (Some Usage) none cause = inl refl
usage_only words (Some NoMemory) none cause = inr refl
usage_only words None none cause = absurd (no_words words none cause)
usage_only words (Some _) none cause = absurd (no_words words none cause)

done_words : (words : List (List ℕ)) (stop : Option Stop) → stop ≡ None → WordsCause words stop → asked words ≡ None → ⊥
done_words words stop is cause none =
    let W : Option Stop → Type 0 = WordsCause words in
    no_words words none (subst W is cause)

pub no_command_told : (words : List (List ℕ)) (stop : Option Stop) (before now status : ℕ) → asked words ≡ None → WordsCause words stop → IsStatus stop before now status → (status ≡ 2) ⊎ (status ≡ 10)
no_command_told words stop before now status none cause (inl is) = elim (usage_only words stop none cause) [ inl two ↦ inl (is ∙ two) | inr ten ↦ inr (is ∙ ten) ]
no_command_told words stop before now status none cause (inr (inl is)) = absurd (done_words words stop is.1 cause none)
no_command_told words stop before now status none cause (inr (inr is)) = inr is
