-- The texts of records, line by line. Numbers are decimal without leading zeros, and a line feed ends each line.
use Rattle.std.specs.Prelude.{◌≡◌, ℕ, ◌+◌, ◌<◌, ◌≤◌, ◌^◌, ◌==◌, ℤ, List, [], ◌∷◌, ◌++◌, length, All, Option, Some, None, if◌then◌else◌, codes, decimal}
use Rattle.std.specs.Option.{ForSome}
use Rattle.std.specs.Str.{IsUtf8}
use Rattle.ssq_time.specs.Time.{stamp_text, IsLineTime, IsStampTime}
use Rattle.ssq_plans.specs.declared.meta.Meta.{Meta}
use Rattle.ssq_plans.specs.declared.plan.Plan.{Plan}
use Rattle.ssq_plans.specs.declared.part.PartEnd.{PartEnd}
use Rattle.ssq_plans.specs.declared.commit.Commit.{Commit}
use Rattle.ssq_plans.specs.declared.seen.SeenBy.{SeenBy}

-- one line for each item, which are numbered from that number on
unfoldable pub lines : {X : Type 0} → (ℕ → X → List ℕ) → ℕ → List X → List ℕ
lines spelled at [] = []
lines spelled at (x ∷ xs) = spelled at x ++ lines spelled (at + 1) xs

-- whatever it is
abbrev pub Any : {X : Type 0} → X → Type 0
Any x = Unit {0}

-- a time, or `none` where there is none
abbrev pub time_or_none : Option ℤ → List ℕ
time_or_none None = codes "none"
time_or_none (Some t) = stamp_text t

-- `parts STREAM COUNT`
abbrev pub parts_line : ℕ → ℕ → List ℕ
parts_line stream count = codes "parts " ++ decimal stream ++ codes " " ++ decimal count ++ codes "\n"

-- a stream has at most 64 parts
abbrev pub IsCount : ℕ → Type 0
IsCount count = count ≤ 64

-- a job's record: 1 to 64 partitions, and at most 64 parts of each stream
abbrev pub IsMeta : Meta → Type 0
IsMeta m = (1 ≤ m.partitions) × (m.partitions ≤ 64) × All IsCount m.parts

-- a job's record whose query is UTF-8, with a length of 64 bits
abbrev pub IsMetaRecord : Meta → Type 0
IsMetaRecord m = IsMeta m × IsUtf8 m.query × (length m.query < 2 ^ 64)

-- the record of a job: partitions, the parts of each stream, and the query's length in bytes and text
abbrev pub meta_text : Meta → List ℕ
meta_text m =
    codes "v1\n"
    ++ codes "partitions " ++ decimal m.partitions ++ codes "\n"
    ++ lines parts_line 0 m.parts
    ++ codes "query " ++ decimal (length m.query) ++ codes "\n"
    ++ m.query ++ codes "\n"
    ++ codes "end\n"

-- `part STREAM PART END`
abbrev pub part_line : PartEnd → List ℕ
part_line p =
    codes "part " ++ decimal p.stream ++ codes " " ++ decimal p.part ++ codes " " ++ decimal p.end ++ codes "\n"

-- its numbers have 32, 32 and 64 bits
abbrev pub IsPart : PartEnd → Type 0
IsPart p = (p.stream < 2 ^ 32) × (p.part < 2 ^ 32) × (p.end < 2 ^ 64)

-- a plan: its epoch has 32 bits, and its watermark is none or of the years 0001 to 9999
abbrev pub IsPlan : Plan → Type 0
IsPlan p = (p.epoch < 2 ^ 32) × ForSome p.watermark IsStampTime × All IsPart p.ends

-- the record of a plan
abbrev pub plan_text : Plan → List ℕ
plan_text p =
    codes "v1\n"
    ++ codes "plan " ++ decimal p.epoch ++ codes "\n"
    ++ codes "watermark " ++ time_or_none p.watermark ++ codes "\n"
    ++ lines (λ at part. part_line part) 0 p.ends
    ++ codes "end\n"

-- `seen STREAM TIME`
abbrev pub seen_line : SeenBy → List ℕ
seen_line s = codes "seen " ++ decimal s.stream ++ codes " " ++ time_or_none s.time ++ codes "\n"

-- its time is none or a line's, of the years 1000 to 9000
abbrev pub HasLineTime : SeenBy → Type 0
HasLineTime s = ForSome s.time IsLineTime

-- its stream has 32 bits, and its time is such
abbrev pub IsSeen : SeenBy → Type 0
IsSeen s = (s.stream < 2 ^ 32) × HasLineTime s

-- a commit: its epoch has 32 bits, and each stream in it is such
abbrev pub IsCommit : Commit → Type 0
IsCommit c = (c.epoch < 2 ^ 32) × All IsSeen c.seen

-- the record of a commit
abbrev pub commit_text : Commit → List ℕ
commit_text c =
    codes "v1\n" ++ codes "commit " ++ decimal c.epoch ++ codes "\n" ++ lines (λ at seen. seen_line seen) 0 c.seen ++ codes "end\n"

-- the epoch to plan after that many
abbrev pub epoch_after : ℕ → Option ℕ
epoch_after planned = if planned == 4_294_967_295 then None else Some planned

-- no two records of a kind have one text
pub record AreRecordsApart : Type 0 where
  pub metas : (m n : Meta) → IsMetaRecord m → IsMetaRecord n → meta_text m ≡ meta_text n → m ≡ n
  pub plans : (p q : Plan) → IsPlan p → IsPlan q → plan_text p ≡ plan_text q → p ≡ q
  pub commits : (c d : Commit) → IsCommit c → IsCommit d → commit_text c ≡ commit_text d → c ≡ d
