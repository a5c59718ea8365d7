-- `tuple::header::side_number` meets its contract: case by case.
use Rattle.tuple.proofs.header.side_number.Goals as goal

pub returns-in-Sender : goal.returns-in-Sender
returns-in-Sender c = rw c.in-Sender.is

pub returns-in-Receiver : goal.returns-in-Receiver
returns-in-Receiver c = rw c.in-Receiver.is
