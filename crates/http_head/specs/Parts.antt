-- What the answers of `head` say of the bytes.
use Rattle.std.specs.Prelude.{◌≡◌, ℕ, ◌≤◌, All, IsTrue, IfSome, List, length, take, map, option_map, slice_range}
use Rattle.httparse.specs.Spans.{IsHeaderWithin, IsRequestWithin, span_bytes, header_bytes}
use Rattle.httparse.specs.declared.spans.HeaderSpan.{HeaderSpan}
use Rattle.httparse.specs.declared.spans.RequestSpans.{RequestSpans}
use Rattle.http_head.specs.declared.cookie.Fields.{Fields}
use Rattle.http_head.specs.declared.read.Part.{Part}
use Rattle.http_head.specs.declared.read.HttpHead.{HttpHead}
use Rattle.http_head.specs.declared.read.HeadRead.{HeadRead}
use Rattle.http_head.specs.declared.read.HeadRead.TheVariants.{Partial, Bad, Complete}
use Rattle.http_head.specs.Reading.{reading, bad, partial}
use Rattle.http_head.specs.Fields.{is_complete, length_of, target_of, fields_of, host_of}

-- the bytes of a part
abbrev pub part_bytes : List ℕ → Part → List ℕ
part_bytes bytes part = slice_range bytes part.start part.end

-- the part lies in the first n bytes
abbrev pub IsWithin : ℕ → Part → Type 0
IsWithin n part = (part.start ≤ part.end) × (part.end ≤ n)

-- the bytes begin with a head, and these are its length and its parts
pub record IsHeadOf (bytes : List ℕ) (head : HttpHead) : Type 0 where
  pub reads : IsTrue (is_complete (reading bytes))
  pub whole : head.length ≡ length_of (reading bytes)
  pub path : part_bytes bytes head.path ≡ target_of (reading bytes)
  pub host : option_map (part_bytes bytes) head.host ≡ host_of (reading bytes)
  pub fits : head.length ≤ length bytes
  pub path_fits : IsWithin head.length head.path
  pub host_fits : IfSome head.host (IsWithin head.length)

-- these are the head's fields, and each stands in the bytes
pub record AreFieldsOf (bytes : List ℕ) (f : Fields) : Type 0 where
  pub few : f.count ≤ length f.spans
  pub within : All (IsHeaderWithin (length bytes)) (take f.count f.spans)
  pub fields : map (header_bytes bytes) (take f.count f.spans) ≡ fields_of (reading bytes)

-- the answer is what the bytes say
abbrev pub IsReading : List ℕ → HeadRead → Type 0
IsReading bytes Partial = reading bytes ≡ partial
IsReading bytes Bad = reading bytes ≡ bad
IsReading bytes (Complete head) = IsHeadOf bytes head

-- the same of the parser's spans, and of those that it wrote for the fields
pub record IsShownBy (bytes : List ℕ) (headers : List HeaderSpan) (spans : RequestSpans) : Type 0 where
  pub reads : IsTrue (is_complete (reading bytes))
  pub whole : spans.len ≡ length_of (reading bytes)
  pub path : span_bytes bytes spans.path ≡ target_of (reading bytes)
  pub fields : map (header_bytes bytes) (take spans.headers headers) ≡ fields_of (reading bytes)
  pub within : IsRequestWithin bytes headers spans
