-- Tasks, as the code represents them.
use Rattle.vault_core.specs.Form.{form_of}
use Rattle.vault_cli.specs.runs.Task.{Task, Encrypt, Decrypt, Rekey}
use Rattle.vault_cli.specs.declared.runs.task.Task.{Task as StoredTask}
use Rattle.vault_cli.specs.declared.runs.task.Task.TheVariants as stored

-- the task that a value of the Rust type stands for
abbrev pub as_task : StoredTask → Task
as_task (stored.Encrypt secrets index form salt) = Encrypt secrets.secrets index (form_of form) salt
as_task (stored.Decrypt secrets) = Decrypt secrets
as_task (stored.Rekey secrets new salt) = Rekey secrets new salt
