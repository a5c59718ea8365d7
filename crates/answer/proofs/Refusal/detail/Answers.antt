-- `answer::Refusal::detail` meets its contract: one case after the other.
use Rattle.answer.proofs.Refusal.detail.Goals as goal

pub returns-in-PastEnd : goal.returns-in-PastEnd
returns-in-PastEnd c = rw c.in-PastEnd.is

pub returns-in-NotWhole : goal.returns-in-NotWhole
returns-in-NotWhole c = rw c.in-NotWhole.is

pub returns-in-TooShort : goal.returns-in-TooShort
returns-in-TooShort c = rw c.in-TooShort.is

pub returns-in-HighAddress : goal.returns-in-HighAddress
returns-in-HighAddress c = rw c.in-HighAddress.is

pub returns-in-NotElement : goal.returns-in-NotElement
returns-in-NotElement c = rw c.in-NotElement.is

pub returns-in-BadRecord : goal.returns-in-BadRecord
returns-in-BadRecord c = rw c.in-BadRecord.is

pub returns-in-Unaligned : goal.returns-in-Unaligned
returns-in-Unaligned c = rw c.in-Unaligned.is

pub returns-in-Rounds : goal.returns-in-Rounds
returns-in-Rounds c = rw c.in-Rounds.is

pub returns-in-Floor : goal.returns-in-Floor
returns-in-Floor c = rw c.in-Floor.is

pub returns-in-Register : goal.returns-in-Register
returns-in-Register c = rw c.in-Register.is

pub returns-in-Segment : goal.returns-in-Segment
returns-in-Segment c = rw c.in-Segment.is

pub returns-in-LongMessage : goal.returns-in-LongMessage
returns-in-LongMessage c = rw c.in-LongMessage.is

pub returns-in-LateTimestamp : goal.returns-in-LateTimestamp
returns-in-LateTimestamp c = rw c.in-LateTimestamp.is

pub returns-in-Files : goal.returns-in-Files
returns-in-Files c = rw c.in-Files.is
