-- The text of a key.
use Rattle.std.proofs.Common.{ℤ, IsUtf8}
use Rattle.std.proofs.lemmas.Str.{IsUtf8-from_ascii}
use Rattle.ssq_time.specs.Time.{IsStampTime, stamp_text}
use Rattle.ssq_time.proofs.Ascii.{stamp_text-ascii}

-- the text of a time is ASCII
pub stamp_utf8 : (time : ℤ) → IsStampTime time → IsUtf8 (stamp_text time)
stamp_utf8 time is = IsUtf8-from_ascii (stamp_text time) (stamp_text-ascii time is)
