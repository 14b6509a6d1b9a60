mod Front
mod Reader
mod Writer
