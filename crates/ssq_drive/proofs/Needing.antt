-- Where a round is over no upkeep is left: by the names that it knows, and by the files that it leaves.
use Rattle.std.proofs.Common.{◌≡◌, ◌++◌, ◌+◌, nat_lt, ℕ, Bool, true, false, true≢false, List, [], Option, sym, refl, ap, ◌∙◌, subst, inl, inr, append-nil}
use Rattle.std.specs.Prelude.{is_some}
use Rattle.ssq_outside.specs.declared.name.Name.{Name}
use Rattle.ssq_outside.specs.declared.name.Name.TheVariants as name
use Rattle.ssq_outside.specs.Files.{Files}
use Rattle.ssq_upkeep.specs.Upkeep.{Goes, IsDue, MayGo, is_sure, is_up_to}
use Rattle.ssq_core.specs.Course.{Course}
use Rattle.ssq_core.specs.Standing.{StandsAt}
use Rattle.ssq_core.specs.Sound.{is_state}
use Rattle.ssq_board.specs.Core.{Core}
use Rattle.ssq_board.specs.Shelf.{Shelf, AreListed, asked_in, last_before, last_of, there_in}
use Rattle.ssq_board.proofs.Keeping.{settled_last, up_to_is}
use Rattle.ssq_drive.specs.Driven.{IsUpkept}
use Rattle.ssq_drive.specs.Kept.{IsKeptUp, NeedsNoUpkeep, is_there}

module _ (keeping partitions committed : ℕ) (c : Core) (k : Shelf) (names : List Name) (are : names ≡ k.settled) (done : committed ≡ c.front.committed) (settled : c.front.settled ≡ true) (news : k.news ≡ []) (claimed : k.claimed ≡ []) (kept : IsUpkept keeping partitions c k) where
  there_is : there_in k ≡ k.settled
  there_is = ap (λ (l : List Name). k.settled ++ l) news ∙ append-nil k.settled

  asked_is : asked_in k ≡ k.settled
  asked_is = ap (λ (l : List Name). there_in k ++ l) claimed ∙ append-nil (there_in k) ∙ there_is

  last_is : last_of c ≡ last_before committed
  last_is = settled_last c settled ∙ ap last_before (sym done)

  pub needs_none : NeedsNoUpkeep keeping partitions committed names
  needs_none = record {
    none_due = λ p v less due. kept.none_due p v less
        (subst (λ (o : Option ℕ). IsDue (asked_in k) k.settled p o v) (sym last_is)
        (subst (λ (l : List Name). IsDue l k.settled p (last_before committed) v) (sym asked_is)
        (subst (λ (l : List Name). IsDue l l p (last_before committed) v) are due)));
    none_goes = λ q goes. kept.none_goes q
        (subst (λ (o : Option ℕ). Goes (there_in k) k.settled partitions o q) (sym last_is)
        (subst (λ (l : List Name). Goes l k.settled partitions (last_before committed) q) (sym there_is)
        (subst (λ (l : List Name). Goes l l partitions (last_before committed) q) are goes)));
  }

-- the commits that are there are those of the committed epochs
pub commits_are : (course : Course) (planned committed : ℕ) (files : Files) → StandsAt course planned committed files → (e : ℕ) → is_some (files (name.Commit e)) ≡ nat_lt e committed
commits_are course planned committed files stands e = by (is_some (files (name.Commit e))) refl (nat_lt e committed) refl
  where
    by : (a : Bool) → is_some (files (name.Commit e)) ≡ a → (b : Bool) → nat_lt e committed ≡ b → is_some (files (name.Commit e)) ≡ nat_lt e committed
    by true there true less = there ∙ sym less
    by true there false less = absurd (true≢false (sym (stands.allowed (name.Commit e) there) ∙ less))
    by false there true less = absurd (true≢false (sym (stands.needed (name.Commit e) less) ∙ there))
    by false there false less = there ∙ sym less

module _ (keeping partitions committed : ℕ) (names : List Name) (files : Files) (listed : AreListed files names) (commits : (e : ℕ) → is_some (files (name.Commit e)) ≡ nat_lt e committed) (needs : NeedsNoUpkeep keeping partitions committed names) where
  old_is : (e : ℕ) → is_up_to (last_before committed) e ≡ is_there files (name.Commit e)
  old_is e = up_to_is committed e ∙ sym (commits e)

  may_by : (q : Name) → MayGo (is_there files) q → MayGo (is_sure names (last_before committed)) q
  may_by q may = record {
    p = may.p;
    s = may.s;
    v = may.v;
    snapshot = listed (name.Snapshot may.p may.s) refl ∙ may.snapshot;
    acknowledged = old_is (may.s + 20) ∙ may.acknowledged;
    is = may.is;
  }

  state_by : (q : Name) → MayGo (is_there files) q → is_state q ≡ true
  state_by q may = elim may.is [ inl delta ↦ ap is_state delta.0 | inr snapshot ↦ ap is_state snapshot.0 ]

  pub files_kept : IsKeptUp keeping partitions files
  files_kept = record {
    none_due = λ p v less due. needs.none_due p v less (record {
      tenth = due.tenth;
      acknowledged = old_is v ∙ due.acknowledged;
      absent = listed (name.Snapshot p v) refl ∙ due.absent;
      stays = λ s above sure. old_is (s + 20) ∙ due.stays s above (sym (listed (name.Snapshot p s) refl) ∙ sure);
    });
    none_goes = λ q of there may. needs.none_goes q (record { there = listed q (state_by q may) ∙ there; of = of; may = may_by q may });
  }
