-- What a handler keeps.
use Rattle.syscall_proxy.specs.Kept.{Kept, kept}
use Rattle.htif_mailbox.specs.declared.handler.Handler.{Handler}

abbrev pub kept_by : Handler → Kept
kept_by h = kept h.host.numbers h.acted h.waiting.items
