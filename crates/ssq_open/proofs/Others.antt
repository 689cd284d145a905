-- What the listing says of the files that are not read.
use Rattle.std.proofs.Common.{◌≡◌, ◌⊎◌, ◌<◌, ◌≤◌, ◌+◌, ℕ, List, Option, Some, None, refl, sym, inl, inr, arith, le-leb, leb-true}
use Rattle.std.specs.Prelude.{Contains, IsTrue, IfNone, IfSome}
use Rattle.std.specs.List.{find}
use Rattle.std.proofs.lemmas.Bool.{cases_lt}
use Rattle.std.proofs.lemmas.Bool.Decides.{nat_tests}
use Rattle.ssq_outside.specs.declared.name.Name.{Name}
use Rattle.ssq_outside.specs.declared.name.Name.TheVariants as name
use Rattle.ssq_outside.specs.Files.{Files, AreNames, name_before}
use Rattle.ssq_open.specs.Listing.{is_commit_from, is_out_from}
use Rattle.ssq_open.specs.Epochs.{IsThere, IsSinkRight, IsFirstBad, is_stray, HasNoCommitFrom, HasNoStray}
use Rattle.ssq_open.specs.Refused.{CommitsPassed, IsFirstStray, SinksRefuse, StrayRefuses}
use Rattle.ssq_open.specs.declared.fault.OpenFault.TheVariants.{Damaged}
use Rattle.ssq_open.proofs.Finding.{none_passes, found_contained, found_before}

commit_order : (e f : ℕ) → (name.Commit f ≡ name.Commit e) ⊎ IsTrue (name_before (name.Commit e) (name.Commit f)) → e ≤ f
commit_order e f (inl same) = let is : f ≡ e = commit_same f e same in omega (arith, is)
  where
    commit_same : (f e : ℕ) → name.Commit f ≡ name.Commit e → f ≡ e
    commit_same f e same = cc
commit_order e f (inr before) = grind (arith, nat_tests)

out_order : (e f : ℕ) → (name.Out f ≡ name.Out e) ⊎ IsTrue (name_before (name.Out e) (name.Out f)) → e ≤ f
out_order e f (inl same) = let is : f ≡ e = out_same f e same in omega (arith, is)
  where
    out_same : (f e : ℕ) → name.Out f ≡ name.Out e → f ≡ e
    out_same f e same = cc
out_order e f (inr before) = grind (arith, nat_tests)

-- what the first commit from n on says
abbrev pub IsFirstCommitFrom : Files → ℕ → Name → Type 0
IsFirstCommitFrom files n at = (e : ℕ) × (at ≡ name.Commit e) × (n ≤ e) × IsThere files (name.Commit e) × ((f : ℕ) → n ≤ f → IsThere files (name.Commit f) → e ≤ f)

pub commit_passed : (files : Files) (names : List Name) (n : ℕ) (at : Name) → AreNames files names → find (is_commit_from n) names ≡ Some at → IsFirstCommitFrom files n at
commit_passed files names n (name.Commit e) are found =
    let has = found_contained (is_commit_from n) names (name.Commit e) found in (
      e,
      refl,
      leb-true n e has.1,
      are.there (name.Commit e) has.0,
      λ f less there. commit_order e f (found_before (is_commit_from n) names (name.Commit e) (name.Commit f) are.in_order found (are.all (name.Commit f) there) (le-leb n f less)),
    )
commit_passed files names n name.Meta are found = let no = (found_contained (is_commit_from n) names name.Meta found).1 in cc
commit_passed files names n (name.Plan e) are found = let no = (found_contained (is_commit_from n) names (name.Plan e) found).1 in cc
commit_passed files names n (name.Out e) are found = let no = (found_contained (is_commit_from n) names (name.Out e) found).1 in cc
commit_passed files names n (name.Delta p v) are found = let no = (found_contained (is_commit_from n) names (name.Delta p v) found).1 in cc
commit_passed files names n (name.Snapshot p v) are found = let no = (found_contained (is_commit_from n) names (name.Snapshot p v) found).1 in cc

pub no_commit : (files : Files) (names : List Name) (n : ℕ) → AreNames files names → find (is_commit_from n) names ≡ None → (e : ℕ) → n ≤ e → IsThere files (name.Commit e) → ⊥
no_commit files names n are none e less there = none_passes (is_commit_from n) names (name.Commit e) none (are.all (name.Commit e) there) (le-leb n e less)

-- the sink files are right below the first that is missing
right_below : (files : Files) (names : List Name) (n k w f : ℕ) → AreNames files names → ((e : ℕ) → e < w → Contains names (name.Out e)) → f < w → f < k → IsSinkRight files n k f
right_below files names n k w f are there less below = record { needed = λ _. are.there (name.Out f) (there f less); taken = λ _. inl below }

-- one that is missing and needed
pub sink_absent : (files : Files) (names : List Name) (n k w : ℕ) → AreNames files names → ((e : ℕ) → e < w → Contains names (name.Out e)) → (Contains names (name.Out w) → ⊥) → w < k
    → IsFirstBad (IsSinkRight files n k) w
sink_absent files names n k w are there absent less = record {
  before = λ f below. right_below files names n k w f are there below (omega (arith, below, less));
  bad = λ right. absent (are.all (name.Out w) (right.needed less));
}

-- where no sink file is there from the n-th on, and those of the committed epochs are, all are right
sink_right : (files : Files) (names : List Name) (n k w e : ℕ) → AreNames files names → ((e : ℕ) → e < w → Contains names (name.Out e)) → k ≤ w → k ≤ n → n ≤ k + 1 → (IsThere files (name.Out e) → e < n)
    → IsSinkRight files n k e
sink_right files names n k w e are there all below ahead known = record {
  needed = λ less. are.there (name.Out e) (there e (omega (arith, less, all)));
  taken = λ is. by_place (cases_lt e k) (known is);
}
  where
    by_place : (e < k) ⊎ (k ≤ e) → e < n → (e < k) ⊎ ((e ≡ k) × (k < n))
    by_place (inl less) planned = inl less
    by_place (inr no_less) planned = inr (omega (arith, no_less, planned, ahead), omega (arith, no_less, planned))

pub sinks_right : (files : Files) (names : List Name) (n k w : ℕ) → AreNames files names → ((e : ℕ) → e < w → Contains names (name.Out e)) → k ≤ w → k ≤ n → n ≤ k + 1
    → find (is_out_from n) names ≡ None → (e : ℕ) → IsSinkRight files n k e
sinks_right files names n k w are there all below ahead none e = sink_right files names n k w e are there all below ahead (λ is. by_place is (cases_lt e n))
  where
    by_place : IsThere files (name.Out e) → (e < n) ⊎ (n ≤ e) → e < n
    by_place is (inl less) = less
    by_place is (inr no_less) = absurd (none_passes (is_out_from n) names (name.Out e) none (are.all (name.Out e) is) (le-leb n e no_less))

-- the first sink file from n on
abbrev pub IsFirstSink : Files → ℕ → ℕ → Name → Type 0
IsFirstSink files n k at = (e : ℕ) × (at ≡ name.Out e) × IsFirstBad (IsSinkRight files n k) e

pub sink_passed : (files : Files) (names : List Name) (n k w : ℕ) (at : Name) → AreNames files names → ((e : ℕ) → e < w → Contains names (name.Out e)) → k ≤ w → k ≤ n → n ≤ k + 1
    → find (is_out_from n) names ≡ Some at → IsFirstSink files n k at
sink_passed files names n k w (name.Out e) are there all below ahead found =
    let has = found_contained (is_out_from n) names (name.Out e) found in
    let from : n ≤ e = leb-true n e has.1 in (
      e,
      refl,
      record {
        before = λ f less. sink_right files names n k w f are there all below ahead (λ is. by_place f less is (cases_lt f n));
        bad = λ right. too_late from (right.taken (are.there (name.Out e) has.0));
      },
    )
  where
    by_place : (f : ℕ) → f < e → IsThere files (name.Out f) → (f < n) ⊎ (n ≤ f) → f < n
    by_place f less is (inl early) = early
    by_place f less is (inr late) =
        let above : e ≤ f = out_order e f (found_before (is_out_from n) names (name.Out e) (name.Out f) are.in_order found (are.all (name.Out f) is) (le-leb n f late)) in
        absurd (omega (arith, above, less))

    too_late : n ≤ e → (e < k) ⊎ ((e ≡ k) × (k < n)) → ⊥
    too_late from (inl early) = absurd (omega (arith, early, from, below))
    too_late from (inr last) = absurd (omega (arith, last.0, last.1, from))
sink_passed files names n k w name.Meta are there all below ahead found = let no = (found_contained (is_out_from n) names name.Meta found).1 in cc
sink_passed files names n k w (name.Plan e) are there all below ahead found = let no = (found_contained (is_out_from n) names (name.Plan e) found).1 in cc
sink_passed files names n k w (name.Commit e) are there all below ahead found = let no = (found_contained (is_out_from n) names (name.Commit e) found).1 in cc
sink_passed files names n k w (name.Delta p v) are there all below ahead found = let no = (found_contained (is_out_from n) names (name.Delta p v) found).1 in cc
sink_passed files names n k w (name.Snapshot p v) are there all below ahead found = let no = (found_contained (is_out_from n) names (name.Snapshot p v) found).1 in cc

pub no_stray : (files : Files) (names : List Name) (keeping n : ℕ) → AreNames files names → find (is_stray keeping n) names ≡ None → HasNoStray files keeping n
no_stray files names keeping n are none at stray there = none_passes (is_stray keeping n) names at none (are.all at there) stray

pub first_stray : (files : Files) (names : List Name) (keeping n : ℕ) (at : Name) → AreNames files names → find (is_stray keeping n) names ≡ Some at → IsFirstStray files keeping n at
first_stray files names keeping n at are found =
    let has = found_contained (is_stray keeping n) names at found in
    record {
      stray = has.1;
      there = are.there at has.0;
      first = λ other stray there. found_before (is_stray keeping n) names at other are.in_order found (are.all other there) stray;
    }

-- the files of the state, where the sink files are as they have to be
pub unread_none : (files : Files) (names : List Name) (keeping n k : ℕ) (found : Option Name) → AreNames files names → ((e : ℕ) → IsSinkRight files n k e) → found ≡ find (is_stray keeping n) names
    → IfNone found (((e : ℕ) → IsSinkRight files n k e) × HasNoStray files keeping n)
unread_none files names keeping n k None are sinks found = (sinks, no_stray files names keeping n are (sym found))
unread_none files names keeping n k (Some at) are sinks found = tt

pub unread_some : (files : Files) (names : List Name) (keeping n k : ℕ) (found : Option Name) → AreNames files names → ((e : ℕ) → IsSinkRight files n k e) → found ≡ find (is_stray keeping n) names
    → IfSome found (λ at. SinksRefuse files n k (Damaged at) ⊎ (((e : ℕ) → IsSinkRight files n k e) × StrayRefuses files keeping n (Damaged at)))
unread_some files names keeping n k None are sinks found = tt
unread_some files names keeping n k (Some at) are sinks found = inr (sinks, first_stray files names keeping n at are (sym found))

-- the watermarks, where no commit is of an epoch that is not planned
pub damaged_none : (files : Files) (n : ℕ) (found : Option Name) (P : Type 0) → HasNoCommitFrom files n → IfNone found P → IfNone found (HasNoCommitFrom files n × P)
damaged_none files n None P none is = (none, is)
damaged_none files n (Some at) P none is = tt

pub damaged_some : (files : Files) (n : ℕ) (found : Option Name) (P : Name → Type 0) → HasNoCommitFrom files n → IfSome found P → IfSome found (λ at. CommitsPassed files n (Damaged at) ⊎ (HasNoCommitFrom files n × P at))
damaged_some files n None P none is = tt
damaged_some files n (Some at) P none is = inr (none, is)
