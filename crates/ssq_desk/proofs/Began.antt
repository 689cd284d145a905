-- A desk is whole where its round begins.
use Rattle.std.proofs.Common.{◌≡◌, ◌<◌, ◌≤◌, ◌+◌, [], ◌∷◌, ℕ, Bool, true, false, true≢false, List, length, get_or, Option, Some, None, inl, inr, refl, sym, ap, ◌∙◌, subst, arith, le-ltb}
use Rattle.std.specs.Prelude.{All, IsSomeAnd, is_some, slice_get, nat_lt, vec_capacity}
use Rattle.std.specs.Global.{Vec}
use Rattle.std.specs.Vec.{with_items}
use Rattle.std.proofs.lemmas.List.{length-map, get_or-map, with_items_is}
use Rattle.std.proofs.lemmas.Bool.{ltb-true}
use Rattle.std.proofs.lemmas.Option.{same_Some, get_or_from_slice_get}
use Rattle.ssq_outside.specs.History.{History}
use mathlib.Core.Option.{some, some-ne-none}
use lib.ListN.{get_elem?}
use Rattle.ssq_meaning.specs.Meaning.{Line}
use Rattle.ssq_meaning.specs.Parts.{Part}
use Rattle.ssq_plans.specs.declared.plan.Plan.{Plan}
use Rattle.ssq_plans.specs.declared.part.PartEnd.{PartEnd}
use Rattle.ssq_feed.specs.Causes.{LogWent}
use Rattle.ssq_core.specs.Course.{Cuts, Ends}
use Rattle.ssq_course.specs.Setting.{Setting, parts_in, end_at, first_ends}
use Rattle.ssq_course.specs.Setting.{cut_of as numbers}
use Rattle.ssq_open.specs.Epochs.{cut_of}
use Rattle.ssq_board.specs.declared.front.Cause.{Cause}
use Rattle.ssq_board.specs.declared.front.Cause.TheVariants as cause
use Rattle.ssq_board.specs.declared.front.Place.{Place}
use Rattle.ssq_board.specs.declared.front.Place.TheVariants as place
use Rattle.ssq_board.specs.declared.front.Entry.TheVariants as entry
use Rattle.ssq_board.specs.Core.{Scope}
use Rattle.ssq_board.specs.Shown.{Start, first_place, planned_by}
use Rattle.ssq_board.proofs.Lists.{at_length, replicate_at}
use Rattle.ssq_ledger.specs.Shown.{Shown, HasRisen, did}
use Rattle.ssq_desk.specs.declared.desk.Load.{Load}
use Rattle.ssq_desk.specs.declared.desk.Share.{Share}
use Rattle.ssq_desk.specs.declared.desk.PartLog.{PartLog}
use Rattle.ssq_desk.specs.declared.desk.OutWork.{OutWork}
use Rattle.ssq_desk.specs.declared.first.Made.{Made}
use Rattle.ssq_desk.specs.declared.round.Round.{Round}
use Rattle.ssq_desk.specs.Round.{IsRound, OwnsRound, setting_of, start_at}
use Rattle.ssq_step.specs.Indexing.{Timed}
use Rattle.ssq_store.specs.declared.store.Store.{Store}
use Rattle.ssq_store.specs.Loaded.{count_to}
use Rattle.ssq_task.specs.declared.partition.Held.{Held}
use Rattle.ssq_terms.specs.Partitions.{HoldsStateOf}
use Rattle.ssq_desk.specs.Room.{AreStaged}
use Rattle.ssq_desk.specs.First.{AreIndexes, held_of}
use Rattle.ssq_desk.specs.Making.{AreReady}
use Rattle.ssq_desk.proofs.Staging.{staged_count, staged_keys, staged_ready, held_length, held_at}
use Rattle.ssq_desk.proofs.Holding.{holds_stopped}
use Rattle.ssq_desk.specs.First.{part_logs_of, IsMadeOf, first_shown, BeginsAs, BeginsWork}
use Rattle.ssq_desk.specs.Contents.{IsOutWork, IsHeldOf, IsKeyOf, AreSeen, keeping_in}
use Rattle.ssq_desk.specs.declared.told.Told.{Told}
use Rattle.ssq_desk.specs.Closing.{AreTold}
use Rattle.ssq_desk.specs.Whole.{IsWhole, IsKept, ArePlans}
use Rattle.ssq_desk.proofs.Firsts.{IsFirstMade, opened_holds}
use Rattle.ssq_desk.proofs.Settling.{risen_stops, risen_no_log}
use Rattle.ssq_desk.proofs.Beginnings.{from_count, plans_are, times_are, same_cuts, part_logs_count, part_log_at, own_lines, map_at, slice_below}
use Rattle.ssq_desk.proofs.Planned.{at_get}

-- what a desk holds beside its ledger where its round begins
abbrev pub load_of : {L S F : Type 0} → Round L → Made L S → Vec Plan → Vec (PartLog L) → Vec (Share S) → Vec (Option Held) → Option (OutWork S F) → Load L S F
load_of round made plans part_logs shares held out = record { view = round.view; plans = plans; part_logs = part_logs; shares = shares; held = held; out = out; seen = made.seen; pending = None; told = made.rooms.told; kept = record { meta = round.opened.meta; lines = made.rooms.lines; logs = made.rooms.logs; stores = made.rooms.stores; closings = made.rooms.closings } }

-- the start of a round
abbrev start_in : {L : Type 0} → (L → List Line) → Round L → Start
start_in lines round = start_at (first_ends (setting_of lines round)) round.view.bound.now round.opened

module _ {L S : Type 0} (lines : L → List Line) (round : Round L) {r : Scope} {made : Made L S} (is : IsRound (setting_of lines round) round.opened r) (m : IsMadeOf round.view.bound.now round.view.partitions round.opened (length round.logs.items) made) where
  parts_are : made.begun.parts.items ≡ first_ends (setting_of lines round)
  parts_are = m.begun.parts ∙ sym is.first

  ends_are : made.begun.ends.items ≡ (start_in lines round).from
  ends_are = m.begun.ends ∙ ap (λ (ends : Ends). (start_at ends round.view.bound.now round.opened).from) (sym is.first)

  pub start_is : made.begun.start ≡ start_in lines round
  start_is = m.begun.start ∙ ap (λ (ends : Ends). start_at ends round.view.bound.now round.opened) (sym is.first)

  logs_are : length round.logs.items ≡ length (parts_in (setting_of lines round))
  logs_are = sym (length-map round.logs.items lines) ∙ is.logs

  pub each_part : length made.begun.parts.items ≡ length round.logs.items
  each_part = ap length parts_are ∙ length-map (parts_in (setting_of lines round)) (λ (part : Part). end_at part 0) ∙ sym logs_are

  pub each_end : length made.begun.ends.items ≡ length round.logs.items
  each_end = ap length ends_are ∙ from_count (setting_of lines round) round.opened r is ∙ sym logs_are

module _ {D L S F : Type 0} (stores logs : Type 0) (history : D → History) (lines : L → List Line) (available : L → ℕ) (answers : L → List ℕ) (faults : L → ℕ) (written : S → List ℕ) (sealed : F → List ℕ) (round : Round L) (disk : D) (r : Scope) (made : Made L S)
    (is : IsRound (setting_of lines round) round.opened r)
    (m : IsMadeOf round.view.bound.now round.view.partitions round.opened (length round.logs.items) made)
    (long : logs → (i : ℕ) (own : L) → get_elem? round.logs.items i ≡ some own → get_or r.available i 0 ≤ available own) where
  abbrev reads : Type 0
  reads = stores × logs

  abbrev owned : Type 0
  owned = stores × OwnsRound logs lines round r (history disk)

  abbrev went : L → L → Type 0
  went = LogWent logs lines available answers faults

  abbrev s : Setting
  s = setting_of lines round

  abbrev cuts : Cuts
  cuts = cut_of (first_ends s) round.opened.plans

  abbrev start : Start
  start = start_in lines round

  first_made : IsFirstMade reads lines available went round.logs.items s r start.from (part_logs_of made.begun.parts.items made.begun.ends.items round.logs.items)
  first_made = record {
    parts = part_logs_count made.begun.parts.items made.begun.ends.items round.logs.items (each_part lines round is m) (each_end lines round is m) ∙ (logs_are lines round is m);
    logs = λ i part part_log there here. (let p = part_log_at made.begun.parts.items made.begun.ends.items round.logs.items i part_log here in
        let at : get_or made.begun.parts.items i (end_at part 0) ≡ end_at part 0 =
        ap (λ (ends : Ends). get_or ends i (end_at part 0)) (parts_are lines round is m)
        ∙ get_or-map (λ (q : Part). end_at q 0) (parts_in s) i part (end_at part 0) (slice_below (parts_in s) i part there)
        ∙ ap (λ (q : Part). end_at q 0) (get_or_from_slice_get (parts_in s) i part part there) in record {
          stream = sym (ap (λ (e : PartEnd). e.stream) at) ∙ p.stream_is (end_at part 0);
          number = sym (ap (λ (e : PartEnd). e.part) at) ∙ p.part_is (end_at part 0);
          log = λ back. (
            p.log,
            p.log_is,
            record {
              lines_are = λ t. own_lines s.job.parts s.lines i part (lines p.log) there (map_at lines round.logs.items i p.log p.here);
              long = λ t. long t.1 i p.log p.here;
              before = p.log;
              before_is = p.here;
              has_gone = record { same = λ t. refl; grown = λ t. omega arith; unasked = λ t. refl; counted = omega arith };
            },
          );
        });
    begins = λ i part_log here. (let p = part_log_at made.begun.parts.items made.begun.ends.items round.logs.items i part_log here in
        let none : PartEnd = record { stream = 0; part = 0; end = 0 } in
        sym (p.from_is none) ∙ sym (get_or-map (λ (e : PartEnd). e.end) made.begun.ends.items i none 0 p.end_below) ∙ ap (λ (ends : Ends). get_or (numbers ends) i 0) (ends_are lines round is m));
    nothing = λ i part_log here. (part_log_at made.begun.parts.items made.begun.ends.items round.logs.items i part_log here).nothing;
  }

  next_is : start.is_planned ≡ true → cuts (start.committed + 1) ≡ start.to
  next_is planned =
      let less = ltb-true round.opened.committed (length round.opened.plans) planned in
      let near = is.numbers.near in
      ap cuts (let e : round.opened.committed + 1 ≡ length round.opened.plans = omega (arith, less, near) in e)

  seen_are : AreSeen owned s cuts start.committed made.seen
  seen_are = times_are owned s round.opened r is (λ t. t.1.1) made.seen m.streams m.times

  -- the partitions are those that were made, and no key is told of any
  same_shares : (shares : List (Share S)) → shares ≡ made.room.shares.items → (length shares ≡ length made.room.shares.items) × All (λ (share : Share S). share.key ≡ None) shares
  same_shares shares same = (ap length same, subst (λ (l : List (Share S)). All (λ (share : Share S). share.key ≡ None) l) (sym same) (λ i d less. (m.room.fresh i d less).no_key))

  pub shares_are : (fewer : Type 0) (b : Bool) (held : List (Option Held)) (shares : List (Share S)) (old new : Shown D (Round L)) (out : Option (OutWork S F)) (before later : ℕ) → BeginsWork fewer written b made.room.rows made.room.seen held made.room.shares.items shares before later old new out
      → (length shares ≡ length made.room.shares.items) × All (λ (share : Share S). share.key ≡ None) shares
  shares_are fewer false held shares old new out before later begun = same_shares shares begun.2
  shares_are fewer true held shares old new None before later begun = same_shares shares begun.3
  shares_are fewer true held shares old new (Some work) before later begun =
      (staged_count fewer fewer written (λ t. t) held made.room.shares.items shares begun.4, staged_keys fewer fewer written (λ t. t) (length round.logs.items) held made.room.shares.items shares m.room.fresh begun.4)

  module _ (plans : Vec Plan) (part_logs : Vec (PartLog L)) (shares : Vec (Share S)) (held : Vec (Option Held)) (closings : List (List Timed)) (indexes : AreIndexes (Unit {0}) s.job.bound round.opened.stores closings) (count : length shares.items ≡ length made.room.shares.items)
      (no_keys : All (λ (x : Share S). x.key ≡ None) shares.items) (held_is : held.items ≡ held_of round.opened.stores closings) (plans_is : plans.items ≡ round.opened.plans) (part_logs_is : part_logs.items ≡ part_logs_of made.begun.parts.items made.begun.ends.items round.logs.items) where
    placed : IsFirstMade reads lines available went round.logs.items s r start.from part_logs.items
    placed = subst (λ (l : List (PartLog L)). IsFirstMade reads lines available went round.logs.items s r start.from l) (sym part_logs_is) first_made

    own_plans : ArePlans owned round.opened.plans s cuts (planned_by start.is_planned start.committed) plans.items
    own_plans = subst (λ (l : List Plan). ArePlans owned round.opened.plans s cuts (planned_by start.is_planned start.committed) l) (sym plans_is) (plans_are owned s round.opened r is (λ t. t.1.1))

    nothing_told : AreTold owned s cuts round.opened.committed round.opened.committed made.rooms.told.items
    nothing_told = record {
      count = (let none = ap length m.rooms.no_told in omega (arith, none));
      each = λ i t here. absurd (some-ne-none t (sym (subst (λ (l : List Told). get_elem? l i ≡ some t) m.rooms.no_told here)));
    }

    room_to_tell : (b : Bool) → b ≡ true → length made.rooms.told.items < vec_capacity made.rooms.told
    room_to_tell b opened = (let none = ap length m.rooms.no_told in let room = m.rooms.told_room in omega (arith, none, room))

    own_kept : IsKept s round.opened (record { meta = round.opened.meta; lines = made.rooms.lines; logs = made.rooms.logs; stores = made.rooms.stores; closings = made.rooms.closings })
    own_kept = record {
      meta_is = refl;
      no_lines = m.rooms.no_lines;
      lines_room = m.rooms.lines_room;
      no_logs = m.rooms.no_logs;
      logs_room = subst (λ (n : ℕ). n ≤ vec_capacity made.rooms.logs) (logs_are lines round is m) m.rooms.logs_room;
      no_stores = m.rooms.no_stores;
      stores_room = subst (λ (n : ℕ). n ≤ vec_capacity made.rooms.stores) is.stores.many m.rooms.stores_room;
      no_closings = m.rooms.no_closings;
      closings_room = subst (λ (n : ℕ). n ≤ vec_capacity made.rooms.closings) is.stores.many m.rooms.closings_room;
    }

    held_count : length held.items ≡ keeping_in s
    held_count = ap length held_is ∙ held_length round.opened.stores closings indexes.count ∙ is.stores.many

    held_here : (p : ℕ) (own : Option Held) → get_elem? held.items p ≡ some own → IsSomeAnd own (IsHeldOf owned s cuts start.committed p)
    held_here p own here =
        let at = held_at round.opened.stores closings p own (subst (λ l. get_elem? l p ≡ some own) held_is here) in
        let less = slice_below round.opened.stores p at.store at.store_is in
        let numbers = is.stores.each p at.store (omega (arith, less, is.stores.many)) in
        let same : get_or round.opened.stores p at.store ≡ at.store = get_or_from_slice_get round.opened.stores p at.store at.store at.store_is in
        subst (λ (o : Option Held). IsSomeAnd o (IsHeldOf owned s cuts start.committed p)) (sym at.own_is) (record {
          partition_is = ap (λ (x : Store). x.partition) (sym same) ∙ numbers.partition;
          version = ap (λ (x : Store). count_to x.version) (sym same) ∙ numbers.version;
          state = λ t. subst (HoldsStateOf s cuts start.committed p) at.store_is (subst (λ (c : Cuts). HoldsStateOf s c start.committed p (slice_get round.opened.stores p)) (same_cuts owned s round.opened r is (λ t. t.1.1) t) (t.1.1.states p));
          index = indexes.each tt p at.store at.closing at.store_is at.closing_is;
        })

    begun_whole : (now : D) (out : Option (OutWork S F)) → (start.is_planned ≡ true → (work : OutWork S F) × (out ≡ Some work) × IsOutWork owned written s cuts start.committed work × AreReady owned written s.job.partitions (length (parts_in s)) (keeping_in s) shares.items)
        → IsWhole stores logs history lines available answers faults written sealed (did (first_shown lines round disk r) now []) (load_of round made plans part_logs shares held out)
    begun_whole now out work = record {
      round = is;
      view = record { bound = refl; partitions = refl; windows = is.runs.windows };
      holds = opened_holds reads owned lines available went round.logs.items written sealed s cuts r start part_logs.items shares.items held.items placed (count ∙ m.room.count) no_keys held_count held_here out made.seen None seen_are
          (λ planned. (from_count s round.opened r is, refl, next_is planned, work planned));
      plans = own_plans;
      told = nothing_told;
      told_room = room_to_tell _;
      faulty = λ e. absurd (true≢false (sym (ap is_some e)));
      kept = own_kept;
    }

    stopped_whole : (now : D) (f : Cause) (before later : ℕ) (out : Option (OutWork S F)) → HasRisen f before later
        → IsWhole stores logs history lines available answers faults written sealed (did (first_shown lines round disk r) now (entry.Stop f ∷ [])) (load_of round made plans part_logs shares held out)
    stopped_whole now f before later out risen = record {
      round = is;
      view = record { bound = refl; partitions = refl; windows = is.runs.windows };
      holds = holds_stopped reads owned lines available went round.logs.items written sealed s cuts r.available (first_shown lines round disk r).core f part_logs.items shares.items held.items out made.seen None
          placed.parts (count ∙ m.room.count) held_count
          (λ i part at part_log there here mine. (let p = placed.logs i part part_log there mine in record { stream = p.stream; number = p.number; log = λ back. p.log (λ away. away) }))
          (λ opened q here. absurd (no_rest start.is_planned opened (replicate_at r.partitions q (first_place start.is_planned) place.Rests here)))
          (λ q g here. absurd (no_fault start.is_planned g (replicate_at r.partitions q (first_place start.is_planned) (place.Back (Some g)) here)))
          (λ opened q at share here mine. subst (λ (at : Place). IsKeyOf owned s cuts start.committed q at share.key) (sym (replicate_at r.partitions q (first_place start.is_planned) at here)) (first_key start.is_planned q share (subst (λ (x : Share S). x.key ≡ None) (at_get shares.items q share share mine) (no_keys q share (at_length shares.items q share mine)))))
          (risen_stops reads owned s cuts start.committed f before later risen);
      plans = own_plans;
      told = nothing_told;
      told_room = room_to_tell _;
      faulty = λ e. absurd (risen_no_log f before later risen (same_Some f cause.LogFault e));
      kept = own_kept;
    }
      where
        no_fault : (b : Bool) (g : Cause) → place.Back (Some g) ≡ first_place b → ⊥
        no_fault true g e = cc
        no_fault false g e = cc

        no_rest : (b : Bool) → nat_lt start.committed (planned_by b start.committed) ≡ true → place.Rests ≡ first_place b → ⊥
        no_rest true opened e = cc
        no_rest false opened e = true≢false (sym opened ∙ le-ltb start.committed start.committed (omega arith))

        first_key : (b : Bool) (p : ℕ) (share : Share S) → share.key ≡ None → IsKeyOf owned s cuts start.committed p (first_place b) share.key
        first_key true p share none = none
        first_key false p share none = none

    -- the partitions with their files
    first_ready : (fewer : Type 0) → (owned → fewer) → AreStaged fewer written held.items made.room.shares.items shares.items → AreReady owned written s.job.partitions (length (parts_in s)) (keeping_in s) shares.items
    first_ready fewer so staged =
        subst (λ n. AreReady owned written s.job.partitions (length (parts_in s)) n shares.items) held_count
        (subst (λ n. AreReady owned written s.job.partitions n (length held.items) shares.items) (logs_are lines round is m)
        (staged_ready fewer owned written so s.job.partitions (length round.logs.items) held.items made.room.shares.items shares.items m.room.count m.room.fresh staged))

    -- whatever came of the files of its tasks
    pub began : (fewer : Type 0) (b : Bool) (old new : Shown D (Round L)) (out : Option (OutWork S F)) (before later : ℕ) → (owned → fewer) → start.is_planned ≡ b → old ≡ first_shown lines round disk r
        → BeginsWork fewer written b made.room.rows made.room.seen held.items made.room.shares.items shares.items before later old new out
        → BeginsAs before later (first_shown lines round disk r) new × IsWhole stores logs history lines available answers faults written sealed new (load_of round made plans part_logs shares held out)
    began fewer false old new out before later so planned old_is begun =
        let same : new ≡ did (first_shown lines round disk r) new.disk [] =
        begun.0 ∙ old_is ∙ ap (λ (d : D). did (first_shown lines round disk r) d []) (sym (ap (λ (x : Shown D (Round L)). x.disk) (begun.0 ∙ old_is))) in (
          inl same,
          subst (λ (x : Shown D (Round L)). IsWhole stores logs history lines available answers faults written sealed x (load_of round made plans part_logs shares held out)) (sym same)
              (begun_whole new.disk out (λ yes. absurd (true≢false (sym yes ∙ planned)))),
        )
    began fewer true old new None before later so planned old_is begun =
        let same = begun.1 ∙ ap (λ (x : Shown D (Round L)). did x new.disk (entry.Stop begun.0 ∷ [])) old_is in (
          inr (begun.0, same, begun.2),
          subst (λ (x : Shown D (Round L)). IsWhole stores logs history lines available answers faults written sealed x (load_of round made plans part_logs shares held None)) (sym same) (stopped_whole new.disk begun.0 before later None begun.2),
        )
    began fewer true old new (Some work) before later so planned old_is begun =
        let same = begun.0 ∙ ap (λ (x : Shown D (Round L)). did x new.disk []) old_is in
        let own : IsOutWork owned written s cuts start.committed work = record {
          none = ap (λ v. v.items) begun.1 ∙ m.room.no_rows;
          room = subst (λ v. round.view.partitions ≤ vec_capacity v) (sym begun.1) m.room.rows_room;
          times = subst (AreSeen owned s cuts start.committed) (sym (begun.2 ∙ m.room.times_are)) seen_are;
          rows_empty = λ t. (begun.3 (so t)).0;
          commit_empty = λ t. (begun.3 (so t)).1;
        } in (
          inl same,
          subst (λ (x : Shown D (Round L)). IsWhole stores logs history lines available answers faults written sealed x (load_of round made plans part_logs shares held (Some work))) (sym same)
              (begun_whole new.disk (Some work) (λ yes. (work, refl, own, first_ready fewer so begun.4))),
        )

  -- So a desk is whole that holds what was made, with whatever came of the files of its tasks.
  pub opens : (plans : Vec Plan) (part_logs : Vec (PartLog L)) (held : Vec (Option Held)) (closings : List (List Timed)) → AreIndexes (Unit {0}) s.job.bound round.opened.stores closings → held.items ≡ held_of round.opened.stores closings → plans.items ≡ round.opened.plans
      → part_logs.items ≡ part_logs_of made.begun.parts.items made.begun.ends.items round.logs.items → (news : List (Share S)) (fewer : Type 0) (b : Bool) (old new : Shown D (Round L)) (out : Option (OutWork S F)) (before later : ℕ) → (owned → fewer) → start.is_planned ≡ b → old ≡ first_shown lines round disk r
      → BeginsWork fewer written b made.room.rows made.room.seen held.items made.room.shares.items news before later old new out
      → BeginsAs before later (first_shown lines round disk r) new × IsWhole stores logs history lines available answers faults written sealed new (load_of round made plans part_logs (with_items made.room.shares news) held out)
  opens plans part_logs held closings indexes held_is plans_is part_logs_is news fewer b old new out before later so planned old_is begun =
      let are = shares_are fewer b held.items news old new out before later begun in
      let all : (with_items made.room.shares news).items ≡ news = with_items_is made.room.shares news (are.0 ∙ sym made.room.shares.ok.0) in
      began plans part_logs (with_items made.room.shares news) held closings indexes (ap length all ∙ are.0) (subst (λ (l : List (Share S)). All (λ (share : Share S). share.key ≡ None) l) (sym all) are.1) held_is plans_is part_logs_is fewer b old new out before later so planned old_is
      (subst (λ (l : List (Share S)). BeginsWork fewer written b made.room.rows made.room.seen held.items made.room.shares.items l before later old new out) (sym all) begun)
